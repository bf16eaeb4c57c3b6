-- Under each name a values text holds what the name's last run that tells something tells.
use Rattle.std.proofs.Common.{◌≡◌, ℕ, List, [], ◌∷◌, Bool, true, false, bytes_eq, cond, refl, sym, ◌∙◌, subst, true≢false}
use Rattle.std.proofs.lemmas.Slice.Eq.{bytes_eq-Decides}
use Rattle.serde_json.proofs.Views.{get_member-put, get_member-put_other}
use Rattle.shiny_json.specs.declared.batch.BatchOutput.{BatchOutput}
use Rattle.shiny_json.specs.Told.{or_earlier, entry_told, last_told, Tells, TellTheLast}
use Rattle.shiny_json.specs.Values.{Entry, shown, failed, unsaid, Parts, no_parts, with_entry, with_outputs, outcome_entry}
use Rattle.shiny_json.proofs.Members.{AreRising, AreRising-put, AreRising-without_member, get_member-without_member, get_member-without_member_other}

record IsRising (parts : Parts) : Type 0 where
  errors : AreRising parts.errors
  values : AreRising parts.values

with_entry-rising : (k : List ℕ) (e : Entry) (parts : Parts) → IsRising parts → IsRising (with_entry k e parts)
with_entry-rising k (shown d) parts rising = record { errors = AreRising-without_member k parts.errors rising.errors; values = AreRising-put k d parts.values rising.values }
with_entry-rising k (failed d) parts rising = record { errors = AreRising-put k d parts.errors rising.errors; values = AreRising-without_member k parts.values rising.values }
with_entry-rising k unsaid parts rising = rising

-- an entry under its own name
with_entry-here : (k : List ℕ) (e earlier : Entry) (parts : Parts) → IsRising parts → Tells k earlier parts → Tells k (or_earlier e earlier) (with_entry k e parts)
with_entry-here k (shown d) earlier parts rising tells = record { values = get_member-put k d parts.values; errors = get_member-without_member k parts.errors rising.errors }
with_entry-here k (failed d) earlier parts rising tells = record { values = get_member-without_member k parts.values rising.values; errors = get_member-put k d parts.errors }
with_entry-here k unsaid earlier parts rising tells = tells

apart : (q k : List ℕ) → bytes_eq q k ≡ false → q ≡ k → ⊥
apart q k other same = true≢false (sym ((bytes_eq-Decides q k).1 same) ∙ other)

-- an entry under another name
with_entry-other : (q k : List ℕ) (e earlier : Entry) (parts : Parts) → bytes_eq q k ≡ false → Tells q earlier parts → Tells q earlier (with_entry k e parts)
with_entry-other q k (shown d) earlier parts other tells =
    record { values = get_member-put_other q k d parts.values (apart q k other) ∙ tells.values; errors = get_member-without_member_other q k parts.errors other ∙ tells.errors }
with_entry-other q k (failed d) earlier parts other tells =
    record { values = get_member-without_member_other q k parts.values other ∙ tells.values; errors = get_member-put_other q k d parts.errors (apart q k other) ∙ tells.errors }
with_entry-other q k unsaid earlier parts other tells = tells

with_entry-told : (b : Bool) (q k : List ℕ) (e earlier : Entry) (parts : Parts) → bytes_eq q k ≡ b → IsRising parts → Tells q earlier parts → Tells q (or_earlier (cond b e unsaid) earlier) (with_entry k e parts)
with_entry-told true q k e earlier parts is rising tells =
    let same : q ≡ k = (bytes_eq-Decides q k).0 is in
    subst (λ (x : List ℕ). Tells q (or_earlier e earlier) (with_entry x e parts)) same (with_entry-here q e earlier parts rising tells)
with_entry-told false q k e earlier parts is rising tells = with_entry-other q k e earlier parts is tells

or_earlier-assoc : (a b c : Entry) → or_earlier (or_earlier a b) c ≡ or_earlier a (or_earlier b c)
or_earlier-assoc (shown d) b c = refl
or_earlier-assoc (failed d) b c = refl
or_earlier-assoc unsaid b c = refl

or_earlier-unsaid : (e : Entry) → or_earlier e unsaid ≡ e
or_earlier-unsaid (shown d) = refl
or_earlier-unsaid (failed d) = refl
or_earlier-unsaid unsaid = refl

with_outputs-told : (name : List ℕ) (os : List BatchOutput) (earlier : Entry) (parts : Parts) → IsRising parts → Tells name earlier parts → Tells name (or_earlier (last_told name os) earlier) (with_outputs os parts)
with_outputs-told name [] earlier parts rising tells = tells
with_outputs-told name (o ∷ more) earlier parts rising tells =
    let e = outcome_entry o.plot o.outcome in
    let after = with_entry o.name e parts in
    let here = with_entry-told (bytes_eq name o.name) name o.name e earlier parts refl rising tells in
    subst (λ (x : Entry). Tells name x (with_outputs more after)) (sym (or_earlier-assoc (last_told name more) (entry_told name o) earlier))
    (with_outputs-told name more (or_earlier (entry_told name o) earlier) after (with_entry-rising o.name e parts rising) here)

pub tell_the_last : TellTheLast
tell_the_last os name =
    subst (λ (x : Entry). Tells name x (with_outputs os no_parts)) (or_earlier-unsaid (last_told name os))
    (with_outputs-told name os unsaid no_parts (record { errors = tt; values = tt }) (record { values = refl; errors = refl }))
