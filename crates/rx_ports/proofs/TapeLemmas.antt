-- What a tape gives is the first item that is left of its script.
use Rattle.std.proofs.Common.{◌≡◌, inl, inr, ℕ, zero, suc, ◌+◌, List, [], ◌∷◌, ◌++◌, length, take, drop, slice_get, Bool, false, cond, Some, refl, sym, ap, ◌∙◌, subst, arith}
use Rattle.rx_ports.specs.Faults.{Plan, next_fails, after_call}
use Rattle.rx_ports.specs.Link.{Script, items_given, RecvGives}
use Rattle.rx_ports.specs.MemoryForms.{TapeState, tape_script, IsText, item_answer, script_answer, next_recv, IsOrMemory, after_recv}
use Rattle.rx_ports.specs.declared.link.LinkItem.{LinkItem}
use Rattle.rx_ports.specs.declared.link.LinkItem.TheVariants as item
use Rattle.rx_ports.specs.declared.link.Recv.{Recv}
use Rattle.rx_ports.specs.declared.link.Recv.TheVariants as recv

-- the element at a place stands in front of those behind it
pub drop-slice_get : {A : Type 0} (xs : List A) (k : ℕ) (x : A) → slice_get xs k ≡ Some x → drop k xs ≡ x ∷ drop (k + 1) xs
drop-slice_get [] k x is = cc
drop-slice_get (y ∷ ys) zero x is = let same : y ≡ x = cc in ap (λ z. z ∷ ys) same
drop-slice_get (y ∷ ys) (suc k) x is =
    let on : suc k + 1 ≡ suc (k + 1) = omega arith in
    rw on (drop-slice_get ys k x is)

-- and behind those before it
pub take-slice_get : {A : Type 0} (xs : List A) (k : ℕ) (x : A) → slice_get xs k ≡ Some x → take (k + 1) xs ≡ take k xs ++ x ∷ []
take-slice_get [] k x is = cc
take-slice_get (y ∷ ys) zero x is = let same : y ≡ x = cc in ap (λ z. z ∷ []) same
take-slice_get (y ∷ ys) (suc k) x is =
    let on : suc k + 1 ≡ suc (k + 1) = omega arith in
    rw on (ap (λ l. y ∷ l) (take-slice_get ys k x is))

-- the answer that gives an item gives that one alone
items_given-item_answer : (it : LinkItem) → items_given (item_answer it) ≡ it ∷ []
items_given-item_answer (item.Text text) = refl
items_given-item_answer item.Other = refl

-- where the first item is given and the rest is left, it is given as a link has to
gives_first : (it : LinkItem) (rest : List LinkItem) (ended : Bool)
    → RecvGives (Some (record { left = it ∷ rest; ended = ended })) (Some (record { left = rest; ended = ended })) (item_answer it)
gives_first (item.Text text) rest ended = refl
gives_first item.Other rest ended = refl

pub RecvGives-first : (s now : TapeState) → s ≡ now → (it : LinkItem) (rest : List LinkItem) (answer : Recv)
    → s.left ≡ it ∷ rest → answer ≡ item_answer it
    → RecvGives (Some (tape_script now)) (Some (record { left = rest; ended = s.ended })) answer
RecvGives-first s now same it rest answer first is =
    let old : List LinkItem → Script = λ l. record { left = l; ended = s.ended } in
    let new : Script = record { left = rest; ended = s.ended } in
    subst (λ t. RecvGives (Some (tape_script t)) (Some new) answer) same
    (subst (λ a. RecvGives (Some (tape_script s)) (Some new) a) (sym is)
    (subst (λ l. RecvGives (Some (old l)) (Some new) (item_answer it)) (sym first) (gives_first it rest s.ended)))

-- the answer that gives an item may be given where it is the next, and so may want of memory, where it is a text
is_next : (it : LinkItem) → IsOrMemory (item_answer it) (item_answer it)
is_next (item.Text text) = inl refl
is_next item.Other = refl

is_memory : (it : LinkItem) → IsText it → IsOrMemory (item_answer it) recv.Memory
is_memory (item.Text text) is = inr refl
is_memory item.Other is = absurd is

next_recv-first : (s now : TapeState) → s ≡ now → (it : LinkItem) (rest : List LinkItem) → next_fails s.recv_plan ≡ false
    → s.left ≡ it ∷ rest → next_recv now ≡ item_answer it
next_recv-first s now same it rest goes first =
    ap next_recv (sym same) ∙ ap (λ b. cond b recv.Failed (script_answer s.left s.ended)) goes
    ∙ ap (λ l. script_answer l s.ended) first

pub IsOrMemory-first : (s now : TapeState) → s ≡ now → (it : LinkItem) (rest : List LinkItem) (answer : Recv)
    → next_fails s.recv_plan ≡ false → s.left ≡ it ∷ rest → answer ≡ item_answer it → IsOrMemory (next_recv now) answer
IsOrMemory-first s now same it rest answer goes first is =
    subst (λ a. IsOrMemory (next_recv now) a) (sym is)
    (subst (λ a. IsOrMemory a (item_answer it)) (sym (next_recv-first s now same it rest goes first)) (is_next it))

pub IsOrMemory-text : (s now : TapeState) → s ≡ now → (it : LinkItem) (rest : List LinkItem) → next_fails s.recv_plan ≡ false
    → s.left ≡ it ∷ rest → IsText it → IsOrMemory (next_recv now) recv.Memory
IsOrMemory-text s now same it rest goes first is =
    subst (λ a. IsOrMemory a recv.Memory) (sym (next_recv-first s now same it rest goes first)) (is_memory it is)

-- what the tape has received when the first item was given, and what it then tells
pub received-first : (s now : TapeState) → s ≡ now → (it : LinkItem) (answer : Recv) → answer ≡ item_answer it
    → s.received ++ it ∷ [] ≡ now.received ++ items_given answer
received-first s now same it answer is =
    ap (λ l. s.received ++ l) (sym (ap items_given is ∙ items_given-item_answer it)) ∙ ap (λ t. t.received ++ items_given answer) same

pub after_recv-first : (s now : TapeState) → s ≡ now → (it : LinkItem) (rest received : List LinkItem) (plan : Plan) (answer : Recv)
    → s.left ≡ it ∷ rest → answer ≡ item_answer it
    → received ≡ s.received ++ it ∷ []
    → plan ≡ after_call s.recv_plan (next_fails s.recv_plan)
    → record s { received = received; left = rest; recv_plan = plan } ≡ after_recv now answer
after_recv-first s now same it rest received plan answer first is grown counted =
    let counted_plan : Plan = after_call s.recv_plan (next_fails s.recv_plan) in
    let given : List LinkItem → TapeState = λ g. record s {
      received = s.received ++ g;
      left = drop (length g) s.left;
      recv_plan = counted_plan;
    } in
    ap (λ p. record s { received = received; left = rest; recv_plan = p }) counted
    ∙ ap (λ r. record s { received = r; left = rest; recv_plan = counted_plan }) grown
    ∙ ap (λ l. record s { received = s.received ++ it ∷ []; left = drop 1 l; recv_plan = counted_plan }) (sym first)
    ∙ ap given (sym (ap items_given is ∙ items_given-item_answer it))
    ∙ ap (λ t. after_recv t answer) same
