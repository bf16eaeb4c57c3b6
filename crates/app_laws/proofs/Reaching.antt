-- What reads reach: a union has what its parts have.
use Rattle.std.proofs.Common.{◌≡◌, ℕ, Bool, true, false, List, [], ◌∷◌, ◌++◌, refl, subst}
use Rattle.std.specs.Prelude.{◌==◌, ◌||◌, if◌then◌else◌}
use Rattle.app_tree.specs.declared.term.Read.{Read}
use Rattle.app_tree.specs.Tree.{Shape}
use Rattle.app_tree.specs.Fresh.{Known, is_among, union, sources_of_read, sources_of_reads}
use Rattle.app_tree.specs.Trace.{Every}
use Rattle.app_laws.proofs.Agreeing.{front, back}
use Rattle.app_laws.proofs.WhatIsAsked.{both_of}
use Rattle.app_laws.proofs.Covering.{eq_means}

or_right : (a b : Bool) → a ≡ false → (a || b) ≡ true → b ≡ true
or_right true b h k = cc
or_right false b h k = k

module _ (P : ℕ → Type 0) where
  among_has : (s : ℕ) (xs : List ℕ) → is_among s xs ≡ true → Every P xs → P s
  among_has s [] h p = cc
  among_has s (x ∷ xs) h p = by (x == s) refl (among_has s xs)
    where
      by : (b : Bool) → (x == s) ≡ b → (is_among s xs ≡ true → Every P xs → P s) → P s
      by true q k = subst P (eq_means x s q) p.0
      by false q k = k (or_right (x == s) (is_among s xs) q h) p.1

  abbrev added : Bool → List ℕ → ℕ → List ℕ
  added b xs s = if b then xs else xs ++ s ∷ []

  added_left : (b : Bool) (xs : List ℕ) (s : ℕ) → Every P (added b xs s) → Every P xs
  added_left true xs s p = p
  added_left false xs s p = front P xs (s ∷ []) p

  added_here : (b : Bool) (xs : List ℕ) (s : ℕ) → is_among s xs ≡ b → Every P (added b xs s) → P s
  added_here true xs s h p = among_has s xs h p
  added_here false xs s h p = (back P xs (s ∷ []) p).0

  added_all : (b : Bool) (xs : List ℕ) (s : ℕ) → Every P xs → P s → Every P (added b xs s)
  added_all true xs s p q = p
  added_all false xs s p q = both_of P xs (s ∷ []) p (q, tt)

  union_left : (xs ys : List ℕ) → Every P (union xs ys) → Every P xs
  union_left xs [] p = p
  union_left xs (s ∷ ys) p = added_left (is_among s xs) xs s (union_left (added (is_among s xs) xs s) ys p)

  union_right : (xs ys : List ℕ) → Every P (union xs ys) → Every P ys
  union_right xs [] p = tt
  union_right xs (s ∷ ys) p = (added_here (is_among s xs) xs s refl (union_left (added (is_among s xs) xs s) ys p), union_right (added (is_among s xs) xs s) ys p)

  union_all : (xs ys : List ℕ) → Every P xs → Every P ys → Every P (union xs ys)
  union_all xs [] p q = p
  union_all xs (s ∷ ys) p q = union_all (added (is_among s xs) xs s) ys (added_all (is_among s xs) xs s p q.0) q.1

  module _ (app : Shape) (known : List Known) where
    abbrev pub Reaches : Read → Type 0
    Reaches r = Every P (sources_of_read app known r)

    reads_left : (xs : List ℕ) (rs : List Read) → Every P (sources_of_reads app known xs rs) → Every P xs
    reads_left xs [] p = p
    reads_left xs (r ∷ rs) p = union_left xs (sources_of_read app known r) (reads_left (union xs (sources_of_read app known r)) rs p)

    pub reads_each : (xs : List ℕ) (rs : List Read) → Every P (sources_of_reads app known xs rs) → Every Reaches rs
    reads_each xs [] p = tt
    reads_each xs (r ∷ rs) p =
        let next : List ℕ = union xs (sources_of_read app known r) in
        (union_right xs (sources_of_read app known r) (reads_left next rs p), reads_each next rs p)

    pub reads_all : (xs : List ℕ) (rs : List Read) → Every P xs → Every Reaches rs → Every P (sources_of_reads app known xs rs)
    reads_all xs [] p q = p
    reads_all xs (r ∷ rs) p q = reads_all (union xs (sources_of_read app known r)) rs (union_all xs (sources_of_read app known r) p q.0) q.1
