-- What an evaluation over a session notes: what it depends on, each once in the order of its first read, and what its
-- isolated sites came to.
use Rattle.std.specs.Prelude.{◌≡◌, ℕ, zero, suc, ◌-◌, Bool, false, List, [], ◌∷◌, ◌++◌, Option, Some, None, nat_eq, if◌then◌else◌, refl}
use Rattle.std.specs.List.{list_any}
use Rattle.std.proofs.Common.{sym, ◌∙◌}
use Rattle.rx_value.specs.declared.outcome.Outcome.{Outcome}
use Rattle.app_tree.specs.declared.term.Read.{Read}
use Rattle.app_tree.specs.declared.term.Read.TheVariants as read
use Rattle.app_tree.specs.Tree.{Shape}
use Rattle.app_tree.specs.Numbering.{width_source, height_source}
use Rattle.app_tree.specs.Evaluate.{TraceEntry, reads, given, enters, leaves, Evaluation}
use Rattle.app_tree.specs.Wanted.{Answering}
use Rattle.app_laws.specs.Recorded.{given_outcome, recorded}
use Rattle.dep_graph.specs.declared.on.On.{On}
use Rattle.dep_graph.specs.declared.on.On.TheVariants as on

-- ---- what is depended on

-- what a read depends on
abbrev pub on_of_read : Shape → Read → On
on_of_read app (read.Input s) = on.Source s
on_of_read app (read.Value s) = on.Source s
on_of_read app (read.Status s) = on.Source s
on_of_read app (read.Result s) = on.Source s
on_of_read app (read.Width n) = on.Source (width_source app n)
on_of_read app (read.Height n) = on.Source (height_source app n)
on_of_read app (read.Expr m) = on.Expr m

abbrev pub on_eq : On → On → Bool
on_eq (on.Source s) (on.Source t) = nat_eq s t
on_eq (on.Expr m) (on.Expr n) = nat_eq m n
on_eq _ _ = false

abbrev pub is_on : On → List On → Bool
is_on o ons = list_any (λ p. on_eq p o) ons

abbrev pub with_on : List On → On → List On
with_on ons o = if is_on o ons then ons else ons ++ o ∷ []

-- with what these reads depend on
abbrev pub with_reads : Shape → List On → List Read → List On
with_reads app ons [] = ons
with_reads app ons (r ∷ more) = with_reads app (with_on ons (on_of_read app r)) more

-- ---- the notes of an evaluation

-- `depth` says in how many isolated sites the evaluation stands
pub record Trail : Type 0 where
  pub depth : ℕ
  pub reached : List On
  pub isolated : List (ℕ × Outcome)

abbrev pub first_trail : Trail
first_trail = record { depth = 0; reached = []; isolated = [] }

-- at a site nothing counts
abbrev pub reached_at : ℕ → List On → On → List On
reached_at zero ons o = with_on ons o
reached_at (suc d) ons o = ons

-- a wanted read leaves nothing
abbrev pub noted_read : Option Outcome → On → Trail → Trail
noted_read None o t = t
noted_read (Some x) o t = record t { reached = reached_at t.depth t.reached o }

abbrev pub with_site : ℕ → Outcome → Trail → Trail
with_site s x t = record t { isolated = t.isolated ++ (s, x) ∷ [] }

abbrev pub trail_step : Shape → Answering → TraceEntry → Trail → Trail
trail_step app a (reads r) t = noted_read (a.read r) (on_of_read app r) t
trail_step app a (given s) t = with_site s (given_outcome (a.site s)) t
trail_step app a (enters s) t = record t { depth = suc t.depth }
trail_step app a (leaves s x) t = with_site s x (record t { depth = t.depth - 1 })

abbrev pub trail_after : Shape → Answering → List TraceEntry → Trail → Trail
trail_after app a [] t = t
trail_after app a (x ∷ xs) t = trail_after app a xs (trail_step app a x t)

-- what is noted of an evaluation that begins with none
pub record AreNotes (app : Shape) (a : Answering) (e : Evaluation) (reached : List On) (isolated : List (ℕ × Outcome)) : Type 0 where
  pub counted : reached ≡ with_reads app [] e.outside
  pub sites : isolated ≡ recorded a.site e.asked

-- ---- laws of the reader that notes them

pub trail_after-append : (app : Shape) (a : Answering) (xs ys : List TraceEntry) (t : Trail) → trail_after app a (xs ++ ys) t ≡ trail_after app a ys (trail_after app a xs t)
trail_after-append app a [] ys t = refl
trail_after-append app a (x ∷ xs) ys t = trail_after-append app a xs ys (trail_step app a x t)

-- the same session is read, and the trail goes on
pub record IsNoted (app : Shape) (a : Answering) (t : Trail) (asked : List TraceEntry) (app' : Shape) (a' : Answering) (t' : Trail) : Type 0 where
  pub same_app : app' ≡ app
  pub same : a' ≡ a
  pub trail : t' ≡ trail_after app a asked t

pub noted_stays : (app : Shape) (a : Answering) (t : Trail) → IsNoted app a t [] app a t
noted_stays app a t = record { same_app = refl; same = refl; trail = refl }

pub noted_chains : {b c d : Shape} {a a' a'' : Answering} {t t' t'' : Trail} (xs ys : List TraceEntry) → IsNoted b a t xs c a' t' → IsNoted c a' t' ys d a'' t'' → IsNoted b a t (xs ++ ys) d a'' t''
noted_chains {b} {a = a} {t = t} xs ys p q = record {
  same_app = q.same_app ∙ p.same_app;
  same = q.same ∙ p.same;
  trail = q.trail ∙ (λ j. trail_after (p.same_app j) (p.same j) ys (p.trail j)) ∙ sym (trail_after-append b a xs ys t);
}
