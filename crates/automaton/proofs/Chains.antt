-- Chains of counts. By the trees, no node knows in a round before each node of its cluster has ok in that round (`know_ok`). An up word waits
-- until its node knows and, over the preferred links, until a node of each joined cluster knows; so no node may go in a round before each
-- node of its own cluster and of every joined one has ok (`may_ok`). So no node is two rounds ahead of a near one (`outputs_near`).
-- Assumes nothing.
use Prim.Native.Nat.{ℕ, suc, ◌≤◌, ◌<◌}
use native.Mathlib.Nat.{le_trans}
use native.Mathlib.Omega.{arith}
use native.Mathlib.Decide.{ℕ_discrete}
use mathlib.Core.Path.{◌≡◌, refl, sym, ◌∙◌}
use mathlib.Core.Bool.{true}
use mathlib.Core.List.{List, map}
use Rattle.laws.proofs.Choice.{b_elim}
use Rattle.automaton.specs.Actions.{Act, output, ok}
use Rattle.automaton.specs.Actions.{subtree_ok_sent, subtree_ok_delivered, cluster_ok, down_sent, down_delivered}
use Rattle.automaton.specs.Actions.{preferred_sent, preferred_delivered, up_sent, up_delivered, cluster_go}
use Rattle.automaton.specs.Actions.{subtree_go_sent, subtree_go_delivered, go, input}
use Rattle.automaton.specs.Network.{Net, is_root, children, preferred_neighbours}
use Rattle.automaton.specs.Clusters.{root_of, Near, together, joined}
use Rattle.automaton.specs.Accepted.{Accepted, Joining}
use Rattle.automaton.specs.Needs.{Need, has, know, may, subtree_needs, up_needs, needs_of}
use Rattle.automaton.proofs.Lists.{Every, each_left, each_right, each_of_map, picked}
use Rattle.automaton.proofs.Order.{Holds, Ordered}
use Rattle.automaton.proofs.Trees.{role, from_root, to_root}

-- a node's word that its subtree is ok, and its word that the clusters joined to its subtree are
abbrev subtree_word : {Value : Type 0} → Net Value → ℕ → Act
subtree_word net = role net cluster_ok subtree_ok_sent

abbrev up_word : {Value : Type 0} → Net Value → ℕ → Act
up_word net = role net cluster_go up_sent

module _ {Value : Type 0} (net : Net Value) (acc : Accepted net) (c : Act → ℕ) (o : Ordered net c) where
  -- ---- down the trees

  know_root : (p : ℕ) → p < net.n → c (know net p) ≤ c (cluster_ok (root_of net p))
  unfolding know needs_of
  know_root =
      from_root net acc c cluster_ok down_delivered (λ p. omega (arith, o.row (down_delivered p), o.row (down_sent p)))

  may_root : (p : ℕ) → p < net.n → c (may net p) ≤ c (cluster_go (root_of net p))
  unfolding may needs_of
  may_root =
      from_root net acc c cluster_go subtree_go_delivered
      (λ p. omega (arith, o.row (subtree_go_delivered p), o.row (subtree_go_sent p)))

  -- ---- up the trees

  -- where a root's word and another node's have the same needs, the word by role has them
  role_row :
      (r w : ℕ → Act) (p : ℕ) (l : List Need) → needs_of net (r p) ≡ l → needs_of net (w p) ≡ l
      → Every (Holds c (c (role net r w p))) l
  role_row r w p l er ew =
      b_elim (λ a. Every (Holds c (c a)) l) (is_root net p) (r p) (w p) (λ _. rw er at (o.row (r p)))
      (λ _. rw ew at (o.row (w p)))

  subtree_row : (p : ℕ) → Every (Holds c (c (subtree_word net p))) (subtree_needs net p)
  unfolding needs_of
  subtree_row p = role_row cluster_ok subtree_ok_sent p (subtree_needs net p) refl refl

  up_row : (p : ℕ) → Every (Holds c (c (up_word net p))) (up_needs net p)
  unfolding needs_of
  up_row p = role_row cluster_go up_sent p (up_needs net p) refl refl

  root_ok : (p : ℕ) → p < net.n → c (cluster_ok (root_of net p)) ≤ c (ok p)
  unfolding needs_of subtree_needs
  root_ok p h =
      le_trans
      (to_root net acc c cluster_ok subtree_ok_sent subtree_ok_delivered
      (λ x. each_of_map (Holds c (c (subtree_word net x))) (λ k. has (subtree_ok_delivered k)) (children net x) (subtree_row x).1)
      (λ x. (o.row (subtree_ok_delivered x)).0)
      p
      h)
      (subtree_row p).0

  root_up : (p : ℕ) → p < net.n → c (cluster_go (root_of net p)) ≤ c (up_word net p)
  unfolding needs_of up_needs
  root_up =
      to_root net acc c cluster_go up_sent up_delivered
      (λ x.
      each_of_map (Holds c (c (up_word net x))) (λ k. has (up_delivered k)) (children net x)
      (each_left (Holds c (c (up_word net x))) (map (λ k. has (up_delivered k)) (children net x))
      (map (λ q. has (preferred_delivered q x)) (preferred_neighbours net x))
      (up_row x).1))
      (λ x. (o.row (up_delivered x)).0)

  -- an up word waits until its node knows, and for the preferred word of each of the node's preferred links
  up_know : (p : ℕ) → c (up_word net p) ≤ c (know net p)
  unfolding up_needs
  up_know p = (up_row p).0

  up_preferred : (u v : ℕ) → v < net.n → net.preferred u v ≡ true → c (up_word net u) ≤ c (preferred_delivered v u)
  unfolding up_needs preferred_neighbours
  up_preferred u =
      picked (λ q. c (up_word net u) ≤ c (preferred_delivered q u)) (net.preferred u) net.n
      (each_of_map (Holds c (c (up_word net u))) (λ q. has (preferred_delivered q u)) (preferred_neighbours net u)
      (each_right (Holds c (c (up_word net u))) (map (λ k. has (up_delivered k)) (children net u))
      (map (λ q. has (preferred_delivered q u)) (preferred_neighbours net u))
      (up_row u).1))

  -- ---- what a node that knows, or may go, can rely on

  pub know_ok : (p x : ℕ) → p < net.n → x < net.n → root_of net p ≡ root_of net x → c (know net p) ≤ c (ok x)
  know_ok p x hp hx e = le_trans (rw e at (know_root p hp)) (root_ok x hx)

  may_up : (p u : ℕ) → p < net.n → u < net.n → root_of net p ≡ root_of net u → c (may net p) ≤ c (up_word net u)
  may_up p u hp hu e = le_trans (rw e at (may_root p hp)) (root_up u hu)

  may_ok_together : (p x : ℕ) → p < net.n → x < net.n → root_of net p ≡ root_of net x → c (may net p) ≤ c (ok x)
  may_ok_together p x hp hx e = omega (arith, may_up p p hp hp refl, up_know p, know_ok p x hp hx e)

  pub may_ok : (p x : ℕ) → p < net.n → x < net.n → Near net p x → c (may net p) ≤ c (ok x)
  unfolding needs_of
  may_ok p x hp hx (together e) = may_ok_together p x hp hx e
  may_ok p x hp hx (joined y z l ey ez) = at (ℕ_discrete (root_of net y) (root_of net z))
    where
      across : Joining net y z → c (may net p) ≤ c (ok x)
      across j =
          omega (
            arith,
            may_up p j.u hp j.u_below (sym (j.u_side ∙ ey)),
            up_preferred j.u j.v j.v_below j.preferred,
            o.row (preferred_delivered j.v j.u),
            o.row (preferred_sent j.v j.u),
            know_ok j.v x j.v_below hx (j.v_side ∙ ez),
          )

      at : Dec (root_of net y ≡ root_of net z) → c (may net p) ≤ c (ok x)
      at (yes e) = may_ok_together p x hp hx (sym ey ∙ e ∙ ez)
      at (no d) = across (acc.joining y z l d)

  -- ---- rounds of near nodes

  pub input_ok : (p x : ℕ) → p < net.n → x < net.n → Near net p x → c (input p) ≤ c (ok x)
  unfolding needs_of
  input_ok p x hp hx near = omega (arith, o.row (input p), o.row (go p), may_ok p x hp hx near)

  pub ok_output : (p : ℕ) → c (ok p) ≤ c (output p)
  unfolding needs_of
  ok_output p = (o.row (ok p)).0

  pub output_input : (p : ℕ) → c (output p) ≤ suc (c (input p))
  unfolding needs_of
  output_input p = (o.row (output p)).0

  pub outputs_near : (p x : ℕ) → p < net.n → x < net.n → Near net p x → c (output p) ≤ suc (c (output x))
  outputs_near p x hp hx near = omega (arith, output_input p, input_ok p x hp hx near, ok_output x)
