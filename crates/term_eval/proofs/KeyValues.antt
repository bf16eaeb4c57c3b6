-- What the keys of a cached reader come to over a reader.
use Rattle.std.proofs.Common.{◌≡◌, ℕ, Bool, true, false, cond, List, [], ◌∷◌, ◌++◌, Result, Ok, Err, refl, sym, ◌∙◌, ap, subst}
use Rattle.rx_value.specs.declared.key.Key.{Key}
use Rattle.rx_value.specs.declared.value.Value.{Value}
use Rattle.rx_value.specs.declared.value.Value.TheVariants as v
use Rattle.rx_value.specs.declared.outcome.Outcome.{Outcome}
use Rattle.rx_value.specs.declared.outcome.Outcome.TheVariants as o
use Rattle.rx_value.specs.Value.{key_eq}
use Rattle.rx_value.specs.Keys.{same_key, key_eq-itself}
use Rattle.app_tree.specs.Tree.{Trees, no_trees, tree}
use Rattle.app_tree.specs.Evaluate.{Answers, TraceEntry, Evaluation, plain, then_by, evaluate, evaluate_all}
use Rattle.app_tree.specs.Keys.{KeysResult, after_key, keys_from, keys_result}
use Rattle.app_tree.specs.Wanted.{Answering, completed}
use Rattle.term_eval.specs.declared.ending.Halt.{Halt}
use Rattle.term_eval.specs.declared.ending.Halt.TheVariants as halt
use Rattle.term_eval.specs.declared.ending.Early.{Early}
use Rattle.term_eval.specs.declared.ending.Early.TheVariants as early
use Rattle.term_eval.specs.KeysTold.{EvalsKeys}
use Rattle.term_eval.specs.inner.Early.{halted_outcome}
use Rattle.term_eval.specs.inner.KeyedBy.{keyed_by}
use Rattle.term_eval.specs.inner.Walks.{At, WalksAll}
use Rattle.term_eval.proofs.Walking.{Stays, quiet}

-- what comes next makes this of the keys' result
abbrev by_keys : (List Value → Outcome) → KeysResult → Outcome
by_keys f (Ok xs) = f xs
by_keys f (Err failure) = failure

first_key : (e : Evaluation) (x : Outcome) (next : Value → Evaluation) (done : List Value) (later : List Value → KeysResult) (f : List Value → Outcome) → e.outcome ≡ x → ((y : Value) → (next y).outcome ≡ by_keys f (later (done ++ y ∷ []))) → (then_by e x next).outcome ≡ by_keys f (after_key done x later)
first_key e (o.Val y) next done later f q h = h y
first_key e (o.Fail t) next done later f q h = q
first_key e o.Stop next done later f q h = q
first_key e o.Cancel next done later f q h = q
first_key e o.Running next done later f q h = q

keys_outcome : (ts : Trees) (a : Answers) (done : List Value) (f : List Value → Outcome) → (evaluate_all ts a [] done (λ xs. plain (f xs))).outcome ≡ by_keys f (keys_from ts a done)
keys_outcome no_trees a done f = refl
keys_outcome (tree t more) a done f = first_key (evaluate t a []) (evaluate t a []).outcome (λ x. evaluate_all more a [] (done ++ x ∷ []) (λ xs. plain (f xs))) done (keys_from more a) f refl (λ x. keys_outcome more a (done ++ x ∷ []) f)

abbrev key_with : List Value → Key
key_with xs = record { node = 0; parts = xs }

abbrev is_same : List Value → List Value → Bool
is_same xs ys = key_eq (key_with xs) (key_with ys)

was_true : (b : Bool) → cond b (o.Val v.Null) o.Stop ≡ o.Val v.Null → b ≡ true
was_true true h = refl
was_true false h = cc

values_are : (r : KeysResult) (xs : List Value) → by_keys (λ ys. cond (is_same ys xs) (o.Val v.Null) o.Stop) r ≡ o.Val v.Null → by_keys (λ ys. cond (is_same ys xs) o.Stop (o.Val v.Null)) r ≡ o.Stop → r ≡ Ok xs
values_are (Ok ys) xs p q = let e : key_with ys ≡ key_with xs = same_key (key_with ys) (key_with xs) (was_true (is_same ys xs) p) in ap (λ (k : Key). Ok k.parts) e
values_are (Err failure) xs p q = let e : o.Val v.Null ≡ o.Stop = sym p ∙ q in cc

failure_is : (r : KeysResult) (h : Halt) → by_keys (λ ys. o.Val v.Null) r ≡ halted_outcome h → r ≡ Err (halted_outcome h)
failure_is (Ok ys) (halt.Fail t) p = cc
failure_is (Ok ys) halt.Stop p = cc
failure_is (Ok ys) halt.Cancel p = cc
failure_is (Ok ys) halt.Running p = cc
failure_is (Err failure) h p = ap Err p

module _ {S : Type 0} (answers : S → Answering) (noted : S → List TraceEntry → S → Type 0) where
  pub keys_keep : Stays noted → (ts : Trees) (a b : At S) (res : Result (List Value) Early) → WalksAll answers noted ts a b res → answers b.reader ≡ answers a.reader
  keys_keep stays ts a b (Ok xs) w = (w (λ ys. plain (o.Val v.Null)) b (Ok v.Null) (quiet answers noted stays (o.Val v.Null) b (Ok v.Null) refl)).keeps
  keys_keep stays ts a b (Err (early.Halted h)) w = (w (λ ys. plain (o.Val v.Null))).keeps
  keys_keep stays ts a b (Err (early.Wants m)) w = (w (λ ys. plain (o.Val v.Null))).keeps
  keys_keep stays ts a b (Err early.Memory) w = w (λ ys. plain (o.Val v.Null))

  keys_given : Stays noted → (n : ℕ) (ts : Trees) (r : S) (b : At S) (xs : List Value) → WalksAll answers noted ts (record { reader = r; variables = [] }) b (Ok xs) → EvalsKeys answers noted n ts r b.reader (keyed_by n (Ok xs))
  keys_given stays n ts r b xs w =
      let A = completed (answers r) in
      let whole = w (λ ys. plain (o.Val v.Null)) b (Ok v.Null) (quiet answers noted stays (o.Val v.Null) b (Ok v.Null) refl) in
      let f : List Value → Outcome = λ ys. cond (is_same ys xs) (o.Val v.Null) o.Stop in
      let g : List Value → Outcome = λ ys. cond (is_same ys xs) o.Stop (o.Val v.Null) in
      let itself = key_eq-itself (key_with xs) in
      let p = w (λ ys. plain (f ys)) b (Ok v.Null) (quiet answers noted stays (f xs) b (Ok v.Null) (ap (λ (t : Bool). cond t (o.Val v.Null) o.Stop) itself)) in
      let q = w (λ ys. plain (g ys)) b (Err (early.Halted halt.Stop)) (quiet answers noted stays (g xs) b (Err (early.Halted halt.Stop)) (ap (λ (t : Bool). cond t o.Stop (o.Val v.Null)) itself)) in
      (refl, values_are (keys_result ts A) xs (sym (keys_outcome ts A [] f) ∙ p.outcome_is) (sym (keys_outcome ts A [] g) ∙ q.outcome_is), whole.none_wanted, whole.notes)

  keys_told : Stays noted → (n : ℕ) (ts : Trees) (r : S) (b : At S) (res : Result (List Value) Early) → WalksAll answers noted ts (record { reader = r; variables = [] }) b res → EvalsKeys answers noted n ts r b.reader (keyed_by n res)
  keys_told stays n ts r b (Ok xs) w = keys_given stays n ts r b xs w
  keys_told stays n ts r b (Err (early.Halted h)) w =
      let whole = w (λ ys. plain (o.Val v.Null)) in
      (failure_is (keys_result ts (completed (answers r))) h (sym (keys_outcome ts (completed (answers r)) [] (λ ys. o.Val v.Null)) ∙ whole.outcome_is), whole.none_wanted, whole.notes)
  keys_told stays n ts r b (Err (early.Wants m)) w = let whole = w (λ ys. plain (o.Val v.Null)) in (whole.wanted, whole.notes)
  keys_told stays n ts r b (Err early.Memory) w = tt

  pub keys_tell : Stays noted → (n : ℕ) (ts : Trees) (r : S) (vs : List Value) (b : At S) (res : Result (List Value) Early) → vs ≡ [] → WalksAll answers noted ts (record { reader = r; variables = vs }) b res → EvalsKeys answers noted n ts r b.reader (keyed_by n res)
  keys_tell stays n ts r vs b res q w = keys_told stays n ts r b res (subst (λ (z : List Value). WalksAll answers noted ts (record { reader = r; variables = z }) b res) q w)
