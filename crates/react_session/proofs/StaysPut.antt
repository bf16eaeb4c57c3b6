-- Whatever is made alive or evaluated, the current values stay, and so does the observer that runs.
use Rattle.std.proofs.Common.{◌≡◌, ℕ, Bool, true, false, List, Ok, Err, refl, sym, ◌∙◌}
use Rattle.std.specs.Prelude.{Result, Option, Some, None, ◌||◌}
use Rattle.std.proofs.lemmas.Bool.{false≢true}
use Rattle.rx_value.specs.declared.memory.Memory.{Memory}
use Rattle.app_tree.specs.Tree.{Node, Shape}
use Rattle.app_tree.specs.Numbering.{is_expression, is_output}
use Rattle.session_model.specs.Standing.{KeptSession}
use Rattle.session_steps.specs.Bringing as bringing
use Rattle.session_steps.specs.Bringing.{Aim, Brings, Begins, IsLost}
use Rattle.react_session.specs.Forcing.{is_output_at}
use Rattle.react_session.specs.inner.Making as making
use Rattle.react_session.specs.inner.Storing.{is_evaluated_at}

pub record StaysPut (s s' : KeptSession) : Type 0 where
  pub values : s'.values ≡ s.values
  pub running : s'.running ≡ s.running

put_trans : (s s' s'' : KeptSession) → StaysPut s s' → StaysPut s' s'' → StaysPut s s''
put_trans s s' s'' p q = record { values = q.values ∙ p.values; running = q.running ∙ p.running }

put_lost : (n : ℕ) (s s' : KeptSession) → IsLost n s s' → StaysPut s s'
put_lost n s s' l = record { values = l.values; running = l.running }

-- ---- readers

brings_put : (app : Shape) (aim : Aim) (bodies : List ℕ) (n : ℕ) (s s' : KeptSession) → Brings app aim bodies n s s' → StaysPut s s'
brings_put app _ _ _ _ _ (Brings.living n s l) = record { values = refl; running = refl }
brings_put app _ _ _ _ _ (Brings.dead bodies n s s' d b) = brings_put app bringing.running bodies n s s' b
brings_put app _ _ _ _ _ (Brings.ends n s s' none a) = record { values = sym a.values; running = sym a.running }
brings_put app _ _ _ _ _ (Brings.hits n c xs s s' cached none values a) = record { values = sym a.values; running = sym a.running }
brings_put app _ _ _ _ _ (Brings.waits earlier later n m s s' s'' w b c) =
    put_trans s s' s'' (brings_put app bringing.reading earlier m s s' b) (brings_put app bringing.running later n s' s'' c)

begins_put : (app : Shape) (aim : Aim) (bodies : List ℕ) (n : ℕ) (s s' : KeptSession) → Begins app aim bodies n s s' → StaysPut s s'
begins_put app _ _ _ _ _ (Begins.none aim n s s' l) = put_lost n s s' l
begins_put app _ _ _ _ _ (Begins.dead bodies n s s' d b) = begins_put app bringing.running bodies n s s' b
begins_put app _ _ _ _ _ (Begins.lost n s s' w l) = put_lost n s s' l
begins_put app _ _ _ _ _ (Begins.within bodies n m s s' w b) = begins_put app bringing.reading bodies m s s' b
begins_put app _ _ _ _ _ (Begins.later earlier more n m s s' s'' w b c) =
    put_trans s s' s'' (brings_put app bringing.reading earlier m s s' b) (begins_put app bringing.running more n s' s'' c)

-- as readers are made alive
pub made_put : {A : Type 0} (app : Shape) (aim : Aim) (n : ℕ) (s s' : KeptSession) (before after : ℕ) (result : Result A Memory) → making.Comes app aim n s s' before after result → StaysPut s s'
made_put app aim n s s' before after (Ok x) f = brings_put app aim f.bodies n s s' f.brings
made_put app aim n s s' before after (Err e) f = begins_put app aim f.bodies n s s' f.begins

-- an output is evaluated
pub output_evaluated : (o : Option Node) → is_output_at o ≡ true → is_evaluated_at o ≡ true
output_evaluated None h = absurd (false≢true h)
output_evaluated (Some i) h = or_right (is_expression i) (is_output i) h
  where
    or_right : (a b : Bool) → b ≡ true → (a || b) ≡ true
    or_right true b k = refl
    or_right false b k = k
