-- What visits lead to from one state is told by what is alive afterwards; so a visit to what a walk makes alive may come before it.
use Rattle.std.proofs.Common.{◌≡◌, inl, inr, ℕ, zero, suc, true, List, [], ◌∷◌, length, Some, None, refl, sym, ap, ◌∙◌, subst}
use Rattle.std.proofs.lemmas.Bool.Decides.{eqb_tells}
use Rattle.rx_value.specs.Results.{choose}
use Rattle.app_tree.specs.declared.term.Read.{Read}
use Rattle.app_tree.specs.declared.term.Read.TheVariants as read
use Rattle.app_tree.specs.Tree.{Node, Shape}
use Rattle.app_tree.specs.Numbering.{readers, reader, is_expression}
use Rattle.app_tree.specs.Cover.{is_covered}
use Rattle.app_tree.specs.Evaluate.{TraceEntry, reads, given, enters, leaves}
use Rattle.app_tree.specs.Trace.{OfRead, EveryRead}
use Rattle.session_model.specs.State.{SessionState, reader_state, is_alive}
use Rattle.session_model.specs.Reading.{VisitResult}
use Rattle.session_model.specs.Run.{passing_manner, run_with, no_visit, run_if_dead, visit_below, visit_expression}
use Rattle.session_model.specs.Standing.{IsAliveRead}
use Rattle.app_laws.specs.Orderly.{ReadsBelow, IsOrderly}
use Rattle.app_laws.proofs.WhatIsAsked.{every_all, reads_map}
use Rattle.session_laws.specs.Now.{walk_of_trace}
use Rattle.session_laws.specs.Sound.{IsSound}
use Rattle.session_laws.specs.VisitLaws.{IsReadOf, IsClosed}
use Rattle.session_laws.proofs.Moving.{Steps, steps_refl, steps_trans, Visits}
use Rattle.session_laws.proofs.Walking.{expression_of}
use Rattle.session_laws.proofs.Visiting.{Leads, leads_refl, leads_trans, leads_keeps, closed_after, visit_leads}
use Rattle.session_laws.proofs.Absorbing.{Anyone, anyone_closed, AliveIn, read_alive, alive_closed, becomes_one, readers_one, visits}

-- what is alive is left as it is
pub visit_still : (app : Shape) (k m : ℕ) (N : SessionState) → is_alive (reader_state N m) ≡ true → visit_below app k m N ≡ no_visit N
visit_still app zero m N h = refl
visit_still app (suc k) m N h = elim (eqb_tells m k) [
  | inl p ↦ ap (λ b. choose b (λ s. run_if_dead (is_alive (reader_state s k)) (run_with app (visit_below app k) k) s) (visit_below app k m) N) p.0
      ∙ ap (λ b. run_if_dead b (run_with app (visit_below app k) k) N) (subst (λ z. is_alive (reader_state N z) ≡ true) p.1 h)
  | inr p ↦ ap (λ b. choose b (λ s. run_if_dead (is_alive (reader_state s k)) (run_with app (visit_below app k) k) s) (visit_below app k m) N) p.0 ∙ visit_still app k m N h
]

-- two states with the same boards to which visits have led, each of which has made alive what is alive in the other one
pub led_one : (app : Shape) (M A B : SessionState) → Leads app (AliveIn B) M A → Leads app (AliveIn A) M B → length B.readers ≡ length A.readers → B.boards ≡ A.boards → B ≡ A
led_one app M A B p q size boards = (λ z. record {
  values = (q.same.values ∙ sym p.same.values) z;
  readers = readers_one A B size (λ j. becomes_one app M A B j (p.each j) (q.each j)) z;
  boards = boards z;
})

any_read : (r : Read) → IsReadOf Anyone r
any_read (read.Expr m) = tt
any_read (read.Input s) = tt
any_read (read.Value s) = tt
any_read (read.Status s) = tt
any_read (read.Result s) = tt
any_read (read.Width m) = tt
any_read (read.Height m) = tt

pub any_asked : (xs : List TraceEntry) → EveryRead (IsReadOf Anyone) xs
any_asked xs = every_all (OfRead (IsReadOf Anyone)) one xs
  where
    one : (x : TraceEntry) → OfRead (IsReadOf Anyone) x
    one (reads r) = any_read r
    one (given s) = tt
    one (enters s) = tt
    one (leaves s o) = tt

module _ (app : Shape) (orderly : IsOrderly app) (covered : (n : ℕ) → is_covered app n ≡ true) where
  abbrev R : ℕ
  R = length (readers app)

  abbrev pub walks : List TraceEntry → SessionState → SessionState
  walks xs N = (walk_of_trace (passing_manner (visit_expression app)) (λ site. None) xs N).state

  -- a walk through what is alive
  pub walks_still : (xs : List TraceEntry) (N : SessionState) → EveryRead (IsAliveRead N) xs → walks xs N ≡ N
  walks_still [] N h = refl
  walks_still (reads (read.Expr m) ∷ xs) N h = ap (λ (v : VisitResult). walks xs v.state) (visit_still app R m N h.0) ∙ walks_still xs N h.1
  walks_still (reads (read.Input s) ∷ xs) N h = walks_still xs N h.1
  walks_still (reads (read.Value s) ∷ xs) N h = walks_still xs N h.1
  walks_still (reads (read.Status s) ∷ xs) N h = walks_still xs N h.1
  walks_still (reads (read.Result s) ∷ xs) N h = walks_still xs N h.1
  walks_still (reads (read.Width m) ∷ xs) N h = walks_still xs N h.1
  walks_still (reads (read.Height m) ∷ xs) N h = walks_still xs N h.1
  walks_still (given s ∷ xs) N h = walks_still xs N h.1
  walks_still (enters s ∷ xs) N h = walks_still xs N h.1
  walks_still (leaves s x ∷ xs) N h = walks_still xs N h.1

  module _ (P : ℕ → Type 0) where
    -- the walk through these led from N to W
    pub record IsWalk (xs : List TraceEntry) (N W : SessionState) : Type 0 where
      pub sound : IsSound app W
      pub steps : Steps app (length (readers app)) N W
      pub leads : Leads app P N W
      pub alive : EveryRead (IsAliveRead W) xs

    over : (x : TraceEntry) (xs : List TraceEntry) (N W : SessionState) → OfRead (IsAliveRead W) x → IsWalk xs N W → IsWalk (x ∷ xs) N W
    over x xs N W h g = record { sound = g.sound; steps = g.steps; leads = g.leads; alive = (h, g.alive) }

    pub walks_lead : (xs : List TraceEntry) → EveryRead (ReadsBelow app (length (readers app))) xs → EveryRead (IsReadOf P) xs → (N : SessionState) → IsSound app N → IsClosed app N P → IsWalk xs N (walks xs N)
    walks_lead [] l h N sound closed = record { sound = sound; steps = steps_refl app R N; leads = leads_refl app P N; alive = tt }
    walks_lead (reads (read.Expr m) ∷ xs) l h N sound closed =
        let e = expression_of app m l.0.1 in
        let v : Visits app R m N (visit_expression app m N).state = visits app orderly covered N sound m e.0 e.1 e.2 in
        let led : Leads app P N (visit_expression app m N).state = visit_leads app P orderly covered N sound closed m e.0 e.1 e.2 h.0 in
        let g : IsWalk xs (visit_expression app m N).state (walks xs (visit_expression app m N).state) =
        walks_lead xs l.1 h.1 (visit_expression app m N).state v.sound (closed_after app P N (visit_expression app m N).state led closed) in
        record {
          sound = g.sound;
          steps = steps_trans app v.steps g.steps;
          leads = leads_trans app P N (visit_expression app m N).state (walks xs (visit_expression app m N).state) led g.leads;
          alive = (leads_keeps app P (visit_expression app m N).state (walks xs (visit_expression app m N).state) g.leads m v.alive, g.alive);
        }
    walks_lead (reads (read.Input s) ∷ xs) l h N sound closed = over (reads (read.Input s)) xs N _ tt (walks_lead xs l.1 h.1 N sound closed)
    walks_lead (reads (read.Value s) ∷ xs) l h N sound closed = over (reads (read.Value s)) xs N _ tt (walks_lead xs l.1 h.1 N sound closed)
    walks_lead (reads (read.Status s) ∷ xs) l h N sound closed = over (reads (read.Status s)) xs N _ tt (walks_lead xs l.1 h.1 N sound closed)
    walks_lead (reads (read.Result s) ∷ xs) l h N sound closed = over (reads (read.Result s)) xs N _ tt (walks_lead xs l.1 h.1 N sound closed)
    walks_lead (reads (read.Width m) ∷ xs) l h N sound closed = over (reads (read.Width m)) xs N _ tt (walks_lead xs l.1 h.1 N sound closed)
    walks_lead (reads (read.Height m) ∷ xs) l h N sound closed = over (reads (read.Height m)) xs N _ tt (walks_lead xs l.1 h.1 N sound closed)
    walks_lead (given s ∷ xs) l h N sound closed = over (given s) xs N _ tt (walks_lead xs l.1 h.1 N sound closed)
    walks_lead (enters s ∷ xs) l h N sound closed = over (enters s) xs N _ tt (walks_lead xs l.1 h.1 N sound closed)
    walks_lead (leaves s x ∷ xs) l h N sound closed = over (leaves s x) xs N _ tt (walks_lead xs l.1 h.1 N sound closed)

  -- a visit to what the walk makes alive may come before it
  module _ (M : SessionState) (sound : IsSound app M) (xs : List TraceEntry) (low : EveryRead (ReadsBelow app (length (readers app))) xs) (m : ℕ) (j : Node) (js : reader app m ≡ Some j) (y : is_expression j ≡ true) where
    abbrev A : SessionState
    A = walks xs M

    abbrev N : SessionState
    N = (visit_expression app m M).state

    abbrev B : SessionState
    B = walks xs N

    first : Visits app R m M N
    first = visits app orderly covered M sound m j js y

    alone : IsWalk Anyone xs M A
    alone = walks_lead Anyone xs low (any_asked xs) M sound (anyone_closed app M)

    alive_in : (W : SessionState) → EveryRead (IsAliveRead W) xs → EveryRead (IsReadOf (AliveIn W)) xs
    alive_in W h = reads_map (IsAliveRead W) (IsReadOf (AliveIn W)) (read_alive W) xs h

    module _ (made : is_alive (reader_state A m) ≡ true) where
      closed : IsClosed app M (AliveIn A)
      closed = alive_closed app Anyone M A alone.leads

      to_first : Leads app (AliveIn A) M N
      to_first = visit_leads app (AliveIn A) orderly covered M sound closed m j js y made

      second : IsWalk (AliveIn A) xs N B
      second = walks_lead (AliveIn A) xs low (alive_in A alone.alive) N first.sound (closed_after app (AliveIn A) M N to_first closed)

      to_both : Leads app (AliveIn A) M B
      to_both = leads_trans app (AliveIn A) M N B to_first second.leads

      to_one : Leads app (AliveIn B) M A
      to_one = (walks_lead (AliveIn B) xs low (alive_in B second.alive) M sound (alive_closed app (AliveIn A) M B to_both)).leads

      pub walks_absorb : walks xs (visit_expression app m M).state ≡ walks xs M
      walks_absorb = led_one app M A B to_one to_both (second.steps.size ∙ first.steps.size ∙ sym alone.steps.size) (second.steps.boards ∙ first.steps.boards ∙ sym alone.steps.boards)
