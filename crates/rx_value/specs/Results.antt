-- One step after another, and what a call of the code answers where it may find no memory.
use Rattle.std.specs.Prelude.{◌≡◌, Bool, true, false, Option, Result, Ok, Err, IfSome}

-- one of two ways to go on, of which only the chosen one is taken
abbrev pub choose : {A B : Type 0} → Bool → (A → B) → (A → B) → A → B
choose true f g x = f x
choose false f g x = g x

-- one step after another: what the first one that is refused is refused with, or what the last one gives
infixl 10 ◌>>=◌
abbrev pub ◌>>=◌ : {A B E : Type 0} → Result A E → (A → Result B E) → Result B E
(Ok x) >>= f = f x
(Err e) >>= f = Err e

-- ---- what a call answers, beside what is said of it
--
-- A call may find no memory, of which nothing is said. `refusal` gives what each other error of the call refuses, and
-- None for want of memory. `view` is how a value of the call is seen.

-- the error is the refusal that is said, unless it is want of memory
abbrev pub RefusesOrMemory : {Y E F : Type 0} → (E → Option F) → E → Result Y F → Type 0
RefusesOrMemory refusal e said = IfSome (refusal e) (λ f. said ≡ Err f)

-- the call answers what is said, unless it finds no memory
abbrev pub GivesOrMemory : {X Y E F : Type 0} → (X → Y) → (E → Option F) → Result X E → Result Y F → Type 0
GivesOrMemory view refusal (Ok x) said = said ≡ Ok (view x)
GivesOrMemory view refusal (Err e) said = RefusesOrMemory refusal e said

-- the call answers what is said and leaves the state that is said, unless it is refused or finds no memory
abbrev pub LeavesOrMemory : {X Y S E F : Type 0} → (X → Y) → (E → Option F) → Result X E → S → Result (Y × S) F → Type 0
LeavesOrMemory view refusal (Ok x) new said = said ≡ Ok (view x, new)
LeavesOrMemory view refusal (Err e) new said = RefusesOrMemory refusal e said
