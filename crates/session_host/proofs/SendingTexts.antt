-- The texts of an event that were sent so far.
use Rattle.std.proofs.Common.{◌≡◌, ◌<◌, ◌≤◌, ℕ, suc, zero, ◌+◌, List, [], ◌∷◌, ◌++◌, length, take, drop, get_or, refl, sym, ap, ◌∙◌, subst, append-nil, append_assoc, arith}
use Rattle.session_model.specs.Faithful.{LinkRecord}
use Rattle.rx_ports.specs.Link.{texts_sent, SendFaults}
use Rattle.rx_ports.specs.declared.link.Sent.{Sent}
use Rattle.rx_ports.specs.declared.link.Sent.TheVariants as send
use Rattle.session_host.specs.Turning.{SendsFront}
use Rattle.session_host.specs.inner.Sending.{LinkSends}

-- the first of these texts, so many of them
pub record SentSoFar (old new : LinkRecord) (texts : List (List ℕ)) (count : ℕ) : Type 0 where
  pub label : new.label ≡ old.label
  pub received : new.received ≡ old.received
  pub script : new.script ≡ old.script
  pub later : old.faults ≤ new.faults
  pub sent : new.sent ≡ old.sent ++ take count texts

pub none_yet : (link : LinkRecord) (texts : List (List ℕ)) → SentSoFar link link texts 0
none_yet link texts = record { label = refl; received = refl; script = refl; later = omega arith; sent = sym (append-nil link.sent) }

front_and_rest : {A : Type 0} (k : ℕ) (l : List A) → l ≡ take k l ++ drop k l
front_and_rest zero l = refl
front_and_rest (suc k) [] = refl
front_and_rest (suc k) (x ∷ l) = ap (λ r. x ∷ r) (front_and_rest k l)

-- what was sent so far is a front of them
pub a_front : (old new : LinkRecord) (texts : List (List ℕ)) (count : ℕ) → SentSoFar old new texts count → SendsFront old.sent new.sent texts
a_front old new texts count s = record {
  front = take count texts;
  is_front = record { rest = drop count texts; is = front_and_rest count texts };
  sent = s.sent;
}

take_more : {A : Type 0} (k : ℕ) (l : List A) (x : A) → k < length l → x ≡ get_or l k x → take (suc k) l ≡ take k l ++ x ∷ []
take_more zero [] x h is = absurd (omega (h, arith))
take_more zero (y ∷ l) x h is = ap (λ z. z ∷ []) (sym is)
take_more (suc k) [] x h is = absurd (omega (h, arith))
take_more (suc k) (y ∷ l) x h is = ap (λ r. y ∷ r) (take_more k l x (omega (h, arith)) is)

take_all : {A : Type 0} (k : ℕ) (l : List A) → length l ≤ k → take k l ≡ l
take_all zero [] h = refl
take_all zero (x ∷ l) h = absurd (omega (h, arith))
take_all (suc k) [] h = refl
take_all (suc k) (x ∷ l) h = ap (λ r. x ∷ r) (take_all k l (omega (h, arith)))

-- one more was sent
pub one_more : (old mid new : LinkRecord) (texts : List (List ℕ)) (count : ℕ) (text : List ℕ) → SentSoFar old mid texts count
    → count < length texts → text ≡ get_or texts count text
    → new.label ≡ mid.label → new.received ≡ mid.received → new.script ≡ mid.script → mid.faults ≤ new.faults → new.sent ≡ mid.sent ++ text ∷ []
    → SentSoFar old new texts (count + 1)
one_more old mid new texts count text s few at label received script later sent = record {
  label = label ∙ s.label;
  received = received ∙ s.received;
  script = script ∙ s.script;
  later = (let x = s.later in omega (x, later, arith));
  sent = sent ∙ ap (λ l. l ++ text ∷ []) s.sent ∙ append_assoc old.sent (take count texts) (text ∷ [])
      ∙ ap (λ l. old.sent ++ l) (sym (take_more count texts text few at) ∙ ap (λ k. take k texts) next);
}
  where
    next : suc count ≡ count + 1
    next = omega arith

-- one wasn't
pub stopped : (old mid new : LinkRecord) (texts : List (List ℕ)) (count : ℕ) (text : List ℕ) (came : Sent) → SentSoFar old mid texts count
    → (came ≡ send.Ok → ⊥)
    → new.label ≡ mid.label → new.received ≡ mid.received → new.script ≡ mid.script → mid.faults ≤ new.faults
    → SendFaults mid.faults new.faults came → new.sent ≡ mid.sent ++ texts_sent text came
    → LinkSends old new texts came
stopped old mid new texts count text send.Ok s not label received script later failed sent = absurd (not refl)
stopped old mid new texts count text send.Failed s not label received script later failed sent = record {
  label = label ∙ s.label;
  received = received ∙ s.received;
  script = script ∙ s.script;
  later = (let x = s.later in omega (x, later, arith));
  failed = (let x = s.later in omega (x, failed, arith));
  sends = subst (λ l. SendsFront old.sent l texts) (sym (sent ∙ append-nil mid.sent)) (a_front old mid texts count s);
}
stopped old mid new texts count text send.Memory s not label received script later failed sent = record {
  label = label ∙ s.label;
  received = received ∙ s.received;
  script = script ∙ s.script;
  later = (let x = s.later in omega (x, later, arith));
  failed = tt;
  sends = subst (λ l. SendsFront old.sent l texts) (sym (sent ∙ append-nil mid.sent)) (a_front old mid texts count s);
}

-- all were
pub all_sent : (old new : LinkRecord) (texts : List (List ℕ)) (count : ℕ) → SentSoFar old new texts count → length texts ≤ count → LinkSends old new texts send.Ok
all_sent old new texts count s most = record {
  label = s.label;
  received = s.received;
  script = s.script;
  later = s.later;
  failed = tt;
  sends = s.sent ∙ ap (λ l. old.sent ++ l) (take_all count texts most);
}
