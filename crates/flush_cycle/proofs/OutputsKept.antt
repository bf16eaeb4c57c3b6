-- What is kept of an output stands at its reader's number, and the outputs in whose last outcome a task runs are those among them.
use Rattle.std.proofs.Common.{◌≡◌, ◌≤◌, ◌<◌, ℕ, zero, suc, ◌+◌, Bool, true, false, List, [], ◌∷◌, ◌++◌, length, get_or, map, drop, refl, sym, ap, ◌∙◌, subst, append_assoc, arith}
use Rattle.std.specs.Prelude.{slice_get, unwrap_or, ◌&&◌, if◌then◌else◌}
use Rattle.app_tree.specs.Tree.{Node}
use Rattle.app_tree.specs.Fresh.{is_among}
use Rattle.session_model.specs.Standing.{KeptOutput, first_output}
use Rattle.flush_cycle.specs.Reports.{is_in_progress, in_progress_from}
use Rattle.flush_cycle.specs.declared.output.OutputState.{OutputState}
use Rattle.flush_cycle.specs.inner.Telling.{with_noted}
use Rattle.flush_cycle.specs.inner.Roles.{role_of, output_seen}

pub mapped_size : {A B : Type 0} (f : A → B) (xs : List A) → length (map f xs) ≡ length xs
mapped_size f [] = refl
mapped_size f (x ∷ xs) = ap suc (mapped_size f xs)

pub outputs_size : (outputs : List OutputState) (items : List Node) → map (λ (o : OutputState). o.role) outputs ≡ map role_of items → length outputs ≡ length items
outputs_size outputs items roles = sym (mapped_size (λ (o : OutputState). o.role) outputs) ∙ ap length roles ∙ mapped_size role_of items

pub output_within : (outputs : List OutputState) (items : List Node) → map (λ (o : OutputState). o.role) outputs ≡ map role_of items → (n : ℕ) → n < length items → n < length outputs
output_within outputs items roles n h = subst (λ k. n < k) (sym (outputs_size outputs items roles)) h

pub output_kept : (outputs : List OutputState) (n : ℕ) (o : OutputState) → n < length outputs → o ≡ get_or outputs n o → output_seen o ≡ unwrap_or (slice_get (map output_seen outputs) n) first_output
output_kept [] n o h is = absurd (omega (h, arith))
output_kept (x ∷ outputs) zero o h is = ap output_seen is
output_kept (x ∷ outputs) (suc n) o h is = output_kept outputs n o (omega (h, arith)) is

-- ---- those in progress

abbrev pub kept_at : List KeptOutput → ℕ → KeptOutput
kept_at outputs n = unwrap_or (slice_get outputs n) first_output

pub in_progress-next : (ran : List ℕ) (outputs : List KeptOutput) (n from : ℕ) → n < length outputs
    → in_progress_from from ran (drop n outputs)
    ≡ (if is_in_progress (kept_at outputs n).last && is_among from ran then from ∷ in_progress_from (suc from) ran (drop (suc n) outputs) else in_progress_from (suc from) ran (drop (suc n) outputs))
in_progress-next ran [] n from h = absurd (omega (h, arith))
in_progress-next ran (o ∷ outputs) zero from h = refl
in_progress-next ran (o ∷ outputs) (suc n) from h = in_progress-next ran outputs n from (omega (h, arith))

noted_by : (b : Bool) (n : ℕ) (numbers behind : List ℕ) → with_noted b n numbers ++ behind ≡ numbers ++ (if b then n ∷ behind else behind)
noted_by true n numbers behind = append_assoc numbers (n ∷ []) behind
noted_by false n numbers behind = refl

pub in_progress-noted : (ran : List ℕ) (outputs : List KeptOutput) (n : ℕ) (numbers noted whole : List ℕ) → n < length outputs
    → noted ≡ with_noted (is_in_progress (kept_at outputs n).last && is_among n ran) n numbers
    → numbers ++ in_progress_from n ran (drop n outputs) ≡ whole → noted ++ in_progress_from (n + 1) ran (drop (n + 1) outputs) ≡ whole
in_progress-noted ran outputs n numbers noted whole within is so_far =
    subst (λ k. noted ++ in_progress_from k ran (drop k outputs) ≡ whole) (let same : suc n ≡ n + 1 = omega arith in same)
    (ap (λ l. l ++ in_progress_from (suc n) ran (drop (suc n) outputs)) is
    ∙ noted_by (is_in_progress (kept_at outputs n).last && is_among n ran) n numbers (in_progress_from (suc n) ran (drop (suc n) outputs))
    ∙ ap (λ l. numbers ++ l) (sym (in_progress-next ran outputs n n within)) ∙ so_far)

pub none_behind : (ran : List ℕ) (outputs : List KeptOutput) (n from : ℕ) → length outputs ≤ n → in_progress_from from ran (drop n outputs) ≡ []
none_behind ran [] zero from h = refl
none_behind ran [] (suc n) from h = refl
none_behind ran (o ∷ outputs) zero from h = absurd (omega (h, arith))
none_behind ran (o ∷ outputs) (suc n) from h = none_behind ran outputs n from (omega (h, arith))
