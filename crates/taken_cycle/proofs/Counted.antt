-- A count of items has come to a place, and what the count of declared sources is.
use Rattle.std.proofs.Common.{◌≡◌, ℕ, zero, suc, ◌+◌, ◌-◌, ◌<◌, ◌≤◌, Bool, true, false, List, [], ◌∷◌, ◌++◌, map, take, drop, filter, length, refl, ◌∙◌, ap, sym, subst, arith, length-append, add-one, get_or}
use Rattle.std.specs.Prelude.{◌||◌, if◌then◌else◌}
use Rattle.std.proofs.lemmas.List.{drop_more}
use Rattle.app_tree.specs.declared.item.Item.{Item}
use Rattle.app_tree.specs.Tree.{Node, input, value, task, reactive, event, text, plot, observe, on}
use Rattle.app_tree.specs.View.{node_of}
use Rattle.app_tree.specs.Numbering.{is_input, is_value, is_task, is_expression, is_output, is_observer, is_reader, declared_sources, output_count}
use Rattle.taken_cycle.specs.inner.Targets.{declared_count, outputs_before}

pub record Counted (is : Node → Bool) (items : List Item) (count at : ℕ) : Type 0 where
  pub rest : count + length (filter is (map node_of (drop at items))) ≡ length (filter is (map node_of items))
  pub within : count ≤ at

-- of the outputs before a reader
pub record CountedBefore (items : List Item) (reader left count at : ℕ) : Type 0 where
  pub rest : count + outputs_before (map node_of (drop at items)) left ≡ outputs_before (map node_of items) reader
  pub within : count ≤ at

three : (xs ys zs : List Node) → length ((xs ++ ys) ++ zs) ≡ (length xs + length ys) + length zs
three xs ys zs = length-append (xs ++ ys) zs ∙ ap (λ n. n + length zs) (length-append xs ys)

abbrev sorts : List Node → ℕ
sorts items = (length (filter is_input items) + length (filter is_value items)) + length (filter is_task items)

sorts_counted : (items : List Node) → declared_count items ≡ sorts items
sorts_counted [] = refl
sorts_counted (input name start ∷ items) = let h = sorts_counted items in omega (h, arith)
sorts_counted (value name start ∷ items) = let h = sorts_counted items in omega (h, arith)
sorts_counted (task name parameters body ∷ items) = let h = sorts_counted items in omega (h, arith)
sorts_counted (reactive name keys body ∷ items) = sorts_counted items
sorts_counted (event name flags e body ∷ items) = sorts_counted items
sorts_counted (text name shown ∷ items) = sorts_counted items
sorts_counted (plot name shown ∷ items) = sorts_counted items
sorts_counted (observe name priority block ∷ items) = sorts_counted items
sorts_counted (on name priority flags e block ∷ items) = sorts_counted items

pub declared_counted : (items : List Node) → declared_count items ≡ length (declared_sources items)
declared_counted items = sorts_counted items ∙ sym (three (filter is_input items) (filter is_value items) (filter is_task items))

-- ---- one more item of those before a reader

abbrev one_if : Bool → ℕ → ℕ
one_if true n = n + 1
one_if false n = n

length_if : (b : Bool) (i : Node) (is : List Node) → length (if b then i ∷ is else is) ≡ one_if b (length is)
length_if true i is = sym (add-one (length is))
length_if false i is = refl

reader_before : (i : Node) (rest : List Node) (left : ℕ) (b : Bool) → is_reader i ≡ true → is_output i ≡ b → 0 < left → outputs_before (i ∷ rest) left ≡ one_if b (outputs_before rest (left - 1))
reader_before i rest zero b r o h = absurd (omega (h, arith))
reader_before i rest (suc left) b r o h =
    let same : left ≡ suc left - 1 = omega arith in
    let behind = filter is_reader rest in
    ap (λ c. output_count (take (suc left) (if c then i ∷ behind else behind))) r
    ∙ ap (λ c. length (if c then i ∷ filter is_output (take left behind) else filter is_output (take left behind))) o
    ∙ length_if b i (filter is_output (take left behind)) ∙ ap (λ n. one_if b (outputs_before rest n)) same

other_before : (i : Node) (rest : List Node) (left : ℕ) → is_reader i ≡ false → outputs_before (i ∷ rest) left ≡ outputs_before rest left
other_before i rest left r = ap (λ c. output_count (take left (if c then i ∷ filter is_reader rest else filter is_reader rest))) r

no_output : (a b c : Bool) → (a || b || c) ≡ false → b ≡ false
no_output true true c h = cc
no_output true false c h = refl
no_output false true c h = cc
no_output false false c h = refl

added : (b : Bool) (count n : ℕ) → count + one_if b n ≡ one_if b count + n
added true count n = omega arith
added false count n = refl

module _ (items : List Item) (reader left count at : ℕ) (x : Item) (so_far : CountedBefore items reader left count at) (lt : at < length items) (is : x ≡ get_or items at x) where
  front : drop at items ≡ x ∷ drop (at + 1) items
  front = drop_more items at x lt ∙ ap (λ y. y ∷ drop (at + 1) items) (sym is)

  abbrev behind : List Node
  behind = map node_of (drop (at + 1) items)

  count_within : (b : Bool) → one_if b count ≤ at + 1
  count_within true = let h = so_far.within in omega (h, arith)
  count_within false = let h = so_far.within in omega (h, arith)

  pub before_reader : (left' count' : ℕ) (b : Bool) → is_reader (node_of x) ≡ true → 0 < left → left' ≡ left - 1 → is_output (node_of x) ≡ b → count' ≡ one_if b count → CountedBefore items reader left' count' (at + 1)
  before_reader left' count' b r some l o c = record {
    rest = ap (λ n. n + outputs_before behind left') c ∙ ap (λ n. one_if b count + outputs_before behind n) l ∙ sym (added b count (outputs_before behind (left - 1)))
        ∙ ap (λ n. count + n) (sym (ap (λ is. outputs_before (map node_of is) left) front ∙ reader_before (node_of x) behind left b r o some)) ∙ so_far.rest;
    within = subst (λ n. n ≤ at + 1) (sym c) (count_within b);
  }

  pub before_other : (left' count' : ℕ) (b : Bool) → is_reader (node_of x) ≡ false → left' ≡ left → is_output (node_of x) ≡ b → count' ≡ one_if b count → CountedBefore items reader left' count' (at + 1)
  before_other left' count' b r l o c =
      let none : b ≡ false = sym o ∙ no_output (is_expression (node_of x)) (is_output (node_of x)) (is_observer (node_of x)) r in
      record {
        rest = ap (λ n. n + outputs_before behind left') (c ∙ ap (λ b. one_if b count) none) ∙ ap (λ n. count + outputs_before behind n) l
            ∙ ap (λ n. count + n) (sym (ap (λ is. outputs_before (map node_of is) left) front ∙ other_before (node_of x) behind left r)) ∙ so_far.rest;
        within = subst (λ n. n ≤ at + 1) (sym c) (count_within b);
      }
