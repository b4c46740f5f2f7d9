-- The queue of a direction as a list. What joins stands at its end and what leaves stood at its head; the queues of other directions stay as
-- they were; and what the code finds first in a direction is what stands at the head of the list.
-- Assumes nothing.
use Prim.Native.Nat.{ℕ, zero, suc, ◌+◌, ◌-◌, ◌*◌, ◌<◌, ◌≤◌}
use native.Mathlib.Nat.{le_refl, add-zero}
use native.Mathlib.Numerals.{add-one}
use native.Mathlib.Omega.{arith}
use mathlib.Core.Path.{◌≡◌, refl, sym, ◌∙◌, ap, ap₂, subst}
use mathlib.Core.Bool.{true, false≢true}
use mathlib.Core.List.{List, [], ◌∷◌, ◌++◌, tail}
use mathlib.Core.Logic.{◌⊎◌, inl, inr}
use lib.ListN.{length, get_or, set}
use lib.Seq.{get_or-set_same, get_or-set_other}
use Rattle.laws.specs.Choice.{if_b, if_eq}
use Rattle.laws.specs.Below.{list_below}
use Rattle.laws.proofs.Choice.{if_lt_yes, if_eq_yes, if_eq_no}
use Rattle.queue.specs.declared.Head.{Head}
use Rattle.queue.specs.declared.Queues.{Queues}
use Rattle.queue.specs.Queue.{head_of, queues, pushed, moved_up, popped}
use Rattle.queue.specs.Queue as Code
use Rattle.automaton.specs.Global.{Msg, packet, ack}
use Rattle.automaton.specs.Answer.{must, packet_at_front, ack_at_front}
use Rattle.automaton.specs.Run.{carried}
use Rattle.guarantees.specs.Reading.{message_of}

-- ---- lists of the first n

pub list_same : {A : Type 0} (f g : ℕ → A) (n : ℕ) → ((j : ℕ) → j < n → f j ≡ g j) → list_below f n ≡ list_below g n
unfolding list_below
list_same f g zero e = refl
list_same f g (suc n) e = ap₂ (λ l x. l ++ x ∷ []) (list_same f g n (λ j h. e j (omega arith))) (e n (le_refl (suc n)))

pub list_cons : {A : Type 0} (f : ℕ → A) (n : ℕ) → list_below f (suc n) ≡ f 0 ∷ list_below (λ k. f (suc k)) n
unfolding list_below
list_cons f zero = refl
list_cons f (suc n) = ap (λ l. l ++ f (suc n) ∷ []) (list_cons f n)

-- ---- the queue of direction d

-- the message at place j of direction d
abbrev at : Queues → ℕ → ℕ → Msg ℕ
at u d j = message_of (get_or u.sorts (d * 2 + j) 0) (get_or u.loads (d * 2 + j) 0)

abbrev pub waiting_of : Queues → ℕ → List (Msg ℕ)
waiting_of u d = list_below (at u d) (get_or u.lens d 0)

module _ (u : Queues) (d : ℕ) (inside : d < 256) (lens : length u.lens ≡ 256) (sorts : length u.sorts ≡ 512) (loads : length u.loads ≡ 512) where
  -- ---- a message joins

  module _ (sort load : ℕ) (room : get_or u.lens d 0 < 2) where
    with_one : Queues
    with_one =
        queues (set u.lens d (get_or u.lens d 0 + 1)) (set u.sorts (d * 2 + get_or u.lens d 0) sort) (set u.loads (d * 2 + get_or u.lens d 0) load)

    pushed_is : pushed u d sort load ≡ with_one
    unfolding pushed with_one
    pushed_is = if_lt_yes (get_or u.lens d 0) 2 _ u room

    pub push_here : waiting_of (pushed u d sort load) d ≡ waiting_of u d ++ message_of sort load ∷ []
    unfolding with_one list_below
    push_here =
        ap (λ w. waiting_of w d) pushed_is
        ∙ ap (list_below (at with_one d)) (get_or-set_same u.lens d (get_or u.lens d 0 + 1) 0 (omega arith) ∙ add-one (get_or u.lens d 0))
        ∙ ap₂ (λ l x. l ++ x ∷ []) (list_same (at with_one d) (at u d) (get_or u.lens d 0) before) last
      where
        before : (j : ℕ) → j < get_or u.lens d 0 → at with_one d j ≡ at u d j
        before j h =
            ap₂ message_of (get_or-set_other u.sorts (d * 2 + get_or u.lens d 0) (d * 2 + j) sort 0 (λ e. omega arith))
            (get_or-set_other u.loads (d * 2 + get_or u.lens d 0) (d * 2 + j) load 0 (λ e. omega arith))

        last : at with_one d (get_or u.lens d 0) ≡ message_of sort load
        last =
            ap₂ message_of (get_or-set_same u.sorts (d * 2 + get_or u.lens d 0) sort 0 (omega arith))
            (get_or-set_same u.loads (d * 2 + get_or u.lens d 0) load 0 (omega arith))

    pub push_there : (c : ℕ) → (c ≡ d → ⊥) → get_or u.lens c 0 ≤ 2 → waiting_of (pushed u d sort load) c ≡ waiting_of u c
    unfolding with_one
    push_there c other two =
        ap (λ w. waiting_of w c) pushed_is
        ∙ ap (list_below (at with_one c)) (get_or-set_other u.lens d c (get_or u.lens d 0 + 1) 0 other)
        ∙ list_same (at with_one c) (at u c) (get_or u.lens c 0)
        (λ j h. ap₂ message_of (get_or-set_other u.sorts (d * 2 + get_or u.lens d 0) (c * 2 + j) sort 0 (λ e. other (omega arith))) (get_or-set_other u.loads (d * 2 + get_or u.lens d 0) (c * 2 + j) load 0 (λ e. other (omega arith))))

  -- ---- the first message leaves

  moved_first : (xs : List ℕ) → length xs ≡ 512 → get_or (moved_up xs d) (d * 2) 0 ≡ get_or xs (d * 2 + 1) 0
  unfolding moved_up
  moved_first xs size =
      get_or-set_other (set xs (d * 2) (get_or xs (d * 2 + 1) 0)) (d * 2 + 1) (d * 2) 0 0 (λ e. omega arith)
      ∙ get_or-set_same xs (d * 2) (get_or xs (d * 2 + 1) 0) 0 (omega arith)

  moved_other : (xs : List ℕ) (c j : ℕ) → (c ≡ d → ⊥) → j < 2 → get_or (moved_up xs d) (c * 2 + j) 0 ≡ get_or xs (c * 2 + j) 0
  unfolding moved_up
  moved_other xs c j other h =
      get_or-set_other (set xs (d * 2) (get_or xs (d * 2 + 1) 0)) (d * 2 + 1) (c * 2 + j) 0 0 (λ e. other (omega arith))
      ∙ get_or-set_other xs (d * 2) (c * 2 + j) (get_or xs (d * 2 + 1) 0) 0 (λ e. other (omega arith))

  module _ (some : 0 < get_or u.lens d 0) where
    without_first : Queues
    without_first = queues (set u.lens d (get_or u.lens d 0 - 1)) (moved_up u.sorts d) (moved_up u.loads d)

    popped_is : popped u d ≡ without_first
    unfolding popped without_first
    popped_is = if_lt_yes 0 (get_or u.lens d 0) _ u some

    pub pop_here : get_or u.lens d 0 ≤ 2 → waiting_of (popped u d) d ≡ tail (waiting_of u d)
    unfolding without_first
    pop_here two =
        ap (λ w. waiting_of w d) popped_is
        ∙ ap (list_below (at without_first d)) (get_or-set_same u.lens d (get_or u.lens d 0 - 1) 0 (omega arith))
        ∙ list_same (at without_first d) (λ j. at u d (suc j)) (get_or u.lens d 0 - 1) moved
        ∙ sym (ap tail (ap (list_below (at u d)) one_more ∙ list_cons (at u d) (get_or u.lens d 0 - 1)))
      where
        one_more : get_or u.lens d 0 ≡ suc (get_or u.lens d 0 - 1)
        one_more = omega arith

        first : (xs : List ℕ) → length xs ≡ 512 → get_or (moved_up xs d) (d * 2 + 0) 0 ≡ get_or xs (d * 2 + 1) 0
        first xs size = ap (λ i. get_or (moved_up xs d) i 0) (add-zero (d * 2)) ∙ moved_first xs size

        moved : (j : ℕ) → j < get_or u.lens d 0 - 1 → at without_first d j ≡ at u d (suc j)
        moved j h =
            let z : 0 ≡ j = omega arith in
            subst (λ i. at without_first d i ≡ at u d (suc i)) z (ap₂ message_of (first u.sorts sorts) (first u.loads loads))

    pub pop_there : (c : ℕ) → (c ≡ d → ⊥) → get_or u.lens c 0 ≤ 2 → waiting_of (popped u d) c ≡ waiting_of u c
    unfolding without_first
    pop_there c other two =
        ap (λ w. waiting_of w c) popped_is
        ∙ ap (list_below (at without_first c)) (get_or-set_other u.lens d c (get_or u.lens d 0 - 1) 0 other)
        ∙ list_same (at without_first c) (at u c) (get_or u.lens c 0)
        (λ j h. ap₂ message_of (moved_other u.sorts c j other (omega arith)) (moved_other u.loads c j other (omega arith)))

-- ---- what is first in direction d

-- the code's word for what stands at the head of a list
unfoldable pub head_from : List (Msg ℕ) → Head
head_from [] = Head.Empty
head_from (packet v ∷ l) = Head.Packet v
head_from (ack ∷ l) = Head.Ack

pub packet_first_lem : (l : List (Msg ℕ)) → Code.packet_first (head_from l) ≡ must (packet_at_front l) 16 0
unfolding Code.packet_first head_from must if_b packet_at_front
packet_first_lem [] = refl
packet_first_lem (packet v ∷ l) = refl
packet_first_lem (ack ∷ l) = refl

pub ack_first_lem : (l : List (Msg ℕ)) → Code.ack_first (head_from l) ≡ must (ack_at_front l) 16 0
unfolding Code.ack_first head_from must if_b ack_at_front
ack_first_lem [] = refl
ack_first_lem (packet v ∷ l) = refl
ack_first_lem (ack ∷ l) = refl

-- where an ack is first, the queue is not empty
pub ack_waits : (u : Queues) (d : ℕ) → ack_at_front (waiting_of u d) ≡ true → 0 < get_or u.lens d 0
unfolding ack_at_front list_below
ack_waits u d f = go (get_or u.lens d 0) refl
  where
    go : (n : ℕ) → get_or u.lens d 0 ≡ n → 0 < get_or u.lens d 0
    go zero e = absurd (false≢true (sym (ap ack_at_front (ap (list_below (at u d)) e)) ∙ f))
    go (suc n) e = omega arith

-- a packet at the front is the head, with the value that it carries
front_head : (l : List (Msg ℕ)) → packet_at_front l ≡ true → head_from l ≡ Head.Packet (carried l 0)
unfolding packet_at_front head_from carried
front_head [] f = absurd (false≢true f)
front_head (packet v ∷ l) f = refl
front_head (ack ∷ l) f = absurd (false≢true f)

-- in a valid state what waits first is a packet or an ack
module _ (u : Queues) (d : ℕ) (sorted : 0 < get_or u.lens d 0 → (get_or u.sorts (d * 2) 0 ≡ 1) ⊎ (get_or u.sorts (d * 2) 0 ≡ 2)) where
  rest : ℕ → List (Msg ℕ)
  rest n = list_below (λ k. at u d (suc k)) n

  waits : (n : ℕ) → get_or u.lens d 0 ≡ suc n → waiting_of u d ≡ message_of (get_or u.sorts (d * 2) 0) (get_or u.loads (d * 2) 0) ∷ rest n
  unfolding rest
  waits n e =
      ap (list_below (at u d)) e ∙ list_cons (at u d) n
      ∙ ap (λ i. message_of (get_or u.sorts i 0) (get_or u.loads i 0) ∷ rest n) (add-zero (d * 2))

  pub head_is : head_of u.lens u.sorts u.loads d ≡ head_from (waiting_of u d)
  unfolding head_of head_from message_of list_below
  head_is = go (get_or u.lens d 0) refl
    where
      later : Head
      later =
          if_eq (get_or u.sorts (d * 2) 0) 1 (Head.Packet (get_or u.loads (d * 2) 0)) (if_eq (get_or u.sorts (d * 2) 0) 2 Head.Ack Head.Empty)

      which : (n : ℕ) → (get_or u.sorts (d * 2) 0 ≡ 1) ⊎ (get_or u.sorts (d * 2) 0 ≡ 2) → later ≡ head_from (message_of (get_or u.sorts (d * 2) 0) (get_or u.loads (d * 2) 0) ∷ rest n)
      which n (inl s) = if_eq_yes _ 1 _ _ s ∙ ap (λ x. head_from (x ∷ rest n)) (sym (if_eq_yes _ 1 _ ack s))
      which n (inr s) =
          let other : get_or u.sorts (d * 2) 0 ≡ 1 → ⊥ = (λ t. omega arith) in
          if_eq_no _ 1 _ _ other ∙ if_eq_yes _ 2 _ _ s ∙ ap (λ x. head_from (x ∷ rest n)) (sym (if_eq_no _ 1 (packet _) ack other))

      go : (n : ℕ) → get_or u.lens d 0 ≡ n → if_eq (get_or u.lens d 0) 0 Head.Empty later ≡ head_from (waiting_of u d)
      go zero e = if_eq_yes _ 0 _ _ e ∙ ap head_from (sym (ap (list_below (at u d)) e))
      go (suc n) e = if_eq_no _ 0 _ _ (λ z. omega arith) ∙ which n (sorted (omega arith)) ∙ ap head_from (sym (waits n e))

  -- where a packet is first, the value that it carries is the load of the first place, and the queue is not empty
  pub packet_carries : packet_at_front (waiting_of u d) ≡ true → (0 < get_or u.lens d 0) × ((old : ℕ) → carried (waiting_of u d) old ≡ get_or u.loads (d * 2) 0)
  unfolding packet_at_front carried message_of list_below
  packet_carries f = go (get_or u.lens d 0) refl
    where
      which : (n : ℕ) → get_or u.lens d 0 ≡ suc n → (get_or u.sorts (d * 2) 0 ≡ 1) ⊎ (get_or u.sorts (d * 2) 0 ≡ 2) → (old : ℕ) → carried (waiting_of u d) old ≡ get_or u.loads (d * 2) 0
      which n e (inl s) old =
          ap (λ l. carried l old) (waits n e ∙ ap (λ x. x ∷ rest n) (if_eq_yes _ 1 _ ack s))
      which n e (inr s) old =
          let there = waits n e ∙ ap (λ x. x ∷ rest n) (if_eq_no _ 1 (packet _) ack (λ t. omega arith)) in
          absurd (false≢true (sym (ap packet_at_front there) ∙ f))

      go : (n : ℕ) → get_or u.lens d 0 ≡ n → (0 < get_or u.lens d 0) × ((old : ℕ) → carried (waiting_of u d) old ≡ get_or u.loads (d * 2) 0)
      go zero e = absurd (false≢true (sym (ap packet_at_front (ap (list_below (at u d)) e)) ∙ f))
      go (suc n) e = (omega arith, which n e (sorted (omega arith)))

  -- and so says the queue's head
  pub packet_head : packet_at_front (waiting_of u d) ≡ true → head_of u.lens u.sorts u.loads d ≡ Head.Packet (get_or u.loads (d * 2) 0)
  packet_head f = head_is ∙ front_head (waiting_of u d) f ∙ ap Head.Packet ((packet_carries f).1 0)
