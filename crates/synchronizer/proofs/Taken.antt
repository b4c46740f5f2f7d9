-- What it says that an action is taken: its nodes are there and stand as its place asks, its count is below the count needed, every other that has
-- to has it, and the queue lets it. So the place of its own count is in use, and the count may rise.
-- Assumes nothing.
use Prim.Native.Nat.{ℕ, zero, suc, min, ◌+◌, ◌*◌, ◌<◌, ◌≤◌}
use native.Mathlib.Omega.{arith}
use mathlib.Core.Path.{◌≡◌, refl, sym, ◌∙◌, ap}
use mathlib.Core.Bool.{Bool, true}
use mathlib.Core.List.{List}
use lib.ListN.{get_or, set, replicate}
use Rattle.laws.specs.Choice.{if_b, if_lt, if_eq}
use Rattle.laws.proofs.Choice.{if_b_yes, if_lt_yes, if_eq_yes, if_eq_no, b_elim, lt_elim, eq_elim}
use Rattle.laws.proofs.Below.{fold_keeps, set_keeps}
use Rattle.nodeset.specs.Marks.{member}
use Rattle.network.specs.declared.Network.{Network}
use Rattle.network.specs.Sets.{link_set}
use Rattle.network.specs.Valid.{valid_network}
use Rattle.network.proofs.Sets.{link_set_from}
use Rattle.network.proofs.Valid.{valid_limits, neighbours_kept, preferred_kept}
use Rattle.actions.specs.declared.Kind.{Kind}
use Rattle.actions.specs.declared.Place.{Place}
use Rattle.actions.specs.Kinds.{count, count_in}
use Rattle.actions.specs.Table.{place_of, own_of, need_of, every_of, does_of}
use Rattle.actions.specs.Records.{names_of, body_of}
use Rattle.queue.specs.Queue.{head_of}
use Rattle.ranges.specs.Fits.{used_by}
use Rattle.synchronizer.specs.declared.State.{State}
use Rattle.synchronizer.specs.Wires.{Wires, joined, lanes_of, wires_of, lane_in, is_root, around_of}
use Rattle.synchronizer.specs.Answer.{stands_in, starts_round, count_answer, every_has, queue_answer, own_in, legal_answer, need_answer, answer_in}

-- ---- a choice of answers that comes to 0

zero_by_first : (a x : ℕ) → if_eq a 0 x a ≡ 0 → (a ≡ 0) × (x ≡ 0)
zero_by_first a x = eq_elim (λ r. r ≡ 0 → (a ≡ 0) × (x ≡ 0)) a 0 x a (λ e z. (e, z)) (λ d z. absurd (d z))

zero_by_test : (t : Bool) (x y : ℕ) → 0 < y → if_b t x y ≡ 0 → (t ≡ true) × (x ≡ 0)
zero_by_test t x y h = b_elim (λ r. r ≡ 0 → (t ≡ true) × (x ≡ 0)) t x y (λ e z. (e, z)) (λ _ z. absurd (omega arith))

zero_by_order : (a b x y : ℕ) → 0 < y → if_lt a b x y ≡ 0 → (a < b) × (x ≡ 0)
zero_by_order a b x y h = lt_elim (λ r. r ≡ 0 → (a < b) × (x ≡ 0)) a b x y (λ l z. (l, z)) (λ _ z. absurd (omega arith))

-- ---- what answer 0 says

pub record Taken (w : Wires) (s : State) (k : Kind) (p q : ℕ) : Type 0 where
  -- not 13
  pub p_below_lem : p < w.nodes
  pub q_below_lem : q < w.nodes
  -- not 14
  pub stands : stands_in (place_of k) (get_or w.neighbours p 0) (get_or w.preferred p 0) q (is_root w.parents p) ≡ true
  -- not 15, and the one count needed is there
  pub counts : count_answer (starts_round (does_of k)) w.rounds (count_in s.counts (own_in w k p q)) (count_in s.counts (need_of k p (around_of w p q))) ≡ 0
  -- not 16
  pub every : every_has (every_of k) s.counts w.lanes p (count_in s.counts (own_in w k p q)) (get_or w.neighbours p 0) (get_or w.children p 0) (get_or w.preferred p 0) ≡ true
  -- the queue from p to q has the message, or the room
  pub queue : queue_answer (does_of k) (head_of s.queues.lens s.queues.sorts s.queues.loads (lane_in w.lanes p q)) (get_or s.queues.lens (lane_in w.lanes p q) 0) ≡ 0

module _ (w : Wires) (s : State) (k : Kind) (p q : ℕ) where
  pub answer_0_taken : answer_in w s k p q ≡ 0 → Taken w s k p q
  unfolding answer_in legal_answer need_answer
  answer_0_taken e =
      let (legal, needs) = zero_by_first _ _ e in
      let (hp, after-p) = zero_by_order p w.nodes _ 13 (omega arith) legal in
      let (hq, after-q) = zero_by_order q w.nodes _ 13 (omega arith) after-p in
      let (counts, later) = zero_by_first _ _ needs in
      let (every, queue) = zero_by_test _ _ 16 (omega arith) later in
      record {
        p_below_lem = hp;
        q_below_lem = hq;
        stands = (zero_by_test _ 0 14 (omega arith) after-q).0;
        counts = counts;
        every = every;
        queue = queue;
      }

  pub taken_answer_0 : Taken w s k p q → answer_in w s k p q ≡ 0
  unfolding answer_in legal_answer need_answer
  taken_answer_0 t = if_eq_yes _ 0 _ _ legal ∙ if_eq_yes _ 0 _ _ t.counts ∙ if_b_yes _ _ 16 t.every ∙ t.queue
    where
      legal : legal_answer w k p q ≡ 0
      legal = if_lt_yes p w.nodes _ 13 t.p_below_lem ∙ if_lt_yes q w.nodes _ 13 t.q_below_lem ∙ if_b_yes _ 0 14 t.stands

-- the count is below rounds, where the count needed is at most rounds
pub count_may_rise : (starts : Bool) (rounds n has : ℕ) → count_answer starts rounds n has ≡ 0 → has ≤ rounds → n < rounds
unfolding count_answer
count_may_rise starts rounds n has e h =
    b_elim (λ r. r ≡ 0 → n < rounds) starts _ _ (λ _ z. (zero_by_order n rounds _ 15 (omega arith) z).0) (λ _ z. omega (arith, (zero_by_order n has 0 16 (omega arith) z).0)) e

-- ---- directions: each that the table holds belongs to a link

joined_below : (n l a b : ℕ) (lanes : List ℕ) → l < n → ((k : ℕ) → get_or lanes k 0 < n * 2) → (k : ℕ) → get_or (joined lanes a b l) k 0 < n * 2
unfolding joined
joined_below n l a b lanes h old =
    set_keeps (λ v. v < n * 2) (set lanes (a * 64 + b) (l * 2)) (b * 64 + a) (l * 2 + 1) 0 (omega arith) (set_keeps (λ v. v < n * 2) lanes (a * 64 + b) (l * 2) 0 (omega arith) old)

pub lanes_below : (lowers uppers : List ℕ) (n : ℕ) → 0 < n → (k : ℕ) → get_or (lanes_of lowers uppers n) k 0 < n * 2
unfolding lanes_of
lanes_below lowers uppers n some =
    fold_keeps (λ lanes. (k : ℕ) → get_or lanes k 0 < n * 2) _ (replicate 4096 0) n (λ k. omega (arith, zeros 4096 k)) (λ l h lanes old. joined_below n l (get_or lowers l 0) (get_or uppers l 0) lanes h old)
  where
    zeros : (m k : ℕ) → get_or {A = ℕ} (replicate m 0) k 0 ≡ 0
    zeros zero k = refl
    zeros (suc m) zero = refl
    zeros (suc m) (suc k) = zeros m k

module _ (net : Network) (v : valid_network net ≡ true) (p q : ℕ) (below : p < net.nodes) where
  -- a node in a set that the links give is the other end of a link, so there is one
  named_by_a_link : (least : ℕ) → member (link_set net.lowers net.uppers net.flags least (min net.links 128) p) q ≡ true → 0 < net.links
  named_by_a_link least m =
      let (l, h, _) = link_set_from net.lowers net.uppers net.flags least (min net.links 128) p q m in
      omega arith

  -- an action that names a link goes along a direction of a link
  lane_in_use : (place : Place) (root : Bool) → names_of place ≡ 2 → stands_in place (get_or net.neighbours p 0) (get_or net.preferred p 0) q root ≡ true → lane_in (lanes_of net.lowers net.uppers net.links) p q < net.links * 2
  unfolding names_of stands_in
  lane_in_use Place.Node root e m = absurd (omega arith)
  lane_in_use Place.Link root e m =
      lanes_below net.lowers net.uppers net.links (named_by_a_link 0 (sym (ap (λ x. member x q) (neighbours_kept net v p (omega (arith, (valid_limits net v).at_most_64_nodes)))) ∙ m)) (p * 64 + q)
  lane_in_use Place.PreferredLink root e m =
      lanes_below net.lowers net.uppers net.links (named_by_a_link 1 (sym (ap (λ x. member x q) (preferred_kept net v p (omega (arith, (valid_limits net v).at_most_64_nodes)))) ∙ m)) (p * 64 + q)
  lane_in_use Place.Child root e m = absurd (omega arith)
  lane_in_use Place.Root root e m = absurd (omega arith)

  -- the action's own count is one of its kind's that are in use
  own_in_use : (place : Place) (k : Kind) (lane : ℕ) → (names_of place ≡ 2 → lane < net.links * 2) → (x : ℕ) × (own_of place k p lane ≡ count k x) × (x < if_eq (names_of place) 1 net.nodes (net.links * 2))
  unfolding names_of own_of
  own_in_use Place.Node k lane h = (p, refl, rw (if_eq_yes 1 1 net.nodes (net.links * 2) refl) below)
  own_in_use Place.Link k lane h = (lane, refl, rw (if_eq_no 2 1 net.nodes (net.links * 2) (λ e. omega arith)) (h refl))
  own_in_use Place.PreferredLink k lane h = (lane, refl, rw (if_eq_no 2 1 net.nodes (net.links * 2) (λ e. omega arith)) (h refl))
  own_in_use Place.Child k lane h = (p, refl, rw (if_eq_yes 1 1 net.nodes (net.links * 2) refl) below)
  own_in_use Place.Root k lane h = (p, refl, rw (if_eq_yes 1 1 net.nodes (net.links * 2) refl) below)

module _ (net : Network) (v : valid_network net ≡ true) (s : State) (k : Kind) (p q : ℕ) (t : Taken (wires_of net) s k p q) where
  pub taken_lane : body_of k ≡ 2 → lane_in (wires_of net).lanes p q < net.links * 2
  unfolding wires_of body_of
  taken_lane e = lane_in_use net v p q t.p_below_lem (place_of k) (is_root net.parents p) e t.stands

  pub taken_own : (x : ℕ) × (own_in (wires_of net) k p q ≡ count k x) × (x < used_by net.nodes net.links k)
  unfolding wires_of body_of own_in used_by
  taken_own = own_in_use net v p q t.p_below_lem (place_of k) k (lane_in (wires_of net).lanes p q) taken_lane
