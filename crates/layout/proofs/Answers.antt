-- The answer of a layout, told twice, is one: number k at place w is what `layout_of` computes exactly if document 02's order of refusals gives k
-- and w for the plan that the bytes hold.
-- Assumes nothing.
use Prim.Native.Nat.{ℕ, ◌<◌, ◌≤◌}
use native.Mathlib.Omega.{arith}
use mathlib.Core.Path.{◌≡◌, refl, sym, ◌∙◌, ap, ap₂, subst, subst₂}
use mathlib.Core.Logic.{◌↔◌, ⊎_elim}
use mathlib.Core.List.{List}
use Rattle.laws.specs.Choice.{if_lt}
use Rattle.laws.proofs.Choice.{if_eq_yes, if_eq_no, if_lt_yes, if_lt_no, lt_elim}
use Rattle.network.specs.declared.Network.{Network}
use Rattle.network.specs.Sets.{with_sets}
use Rattle.records.specs.Numbers.{accepted}
use Rattle.records.specs.Reader.{refused_with, accepted_with, lists_of}
use Rattle.records.specs.Plan.{Plan, network_of}
use Rattle.laws.specs.Lists.{Bytes}
use Rattle.records.proofs.Answers.{answer_refused, every_answer}
use Rattle.records.proofs.Through.{accepted_answer, refused_answer, refused_is_no_0}
use Rattle.links.specs.Links.{nodes_of}
use Rattle.links.proofs.Breach.{none_exactly, breach_exactly}
use Rattle.joined.specs.Joined.{first_unjoined, JoinedIn}
use Rattle.joined.proofs.Checks.{unjoined_is_breach}
use Rattle.plan.specs.Numbers.{unjoined}
use Rattle.plan.specs.Accepted.{plan_network, FirstBroken}
use Rattle.layout.specs.Laid.{Laid}
use Rattle.layout.specs.Answers.{Holds, AllJoined, LayoutAnswer, by_record, by_10, by_22, by_23, laid_out_lem}
use Rattle.layout.specs.Layout.{laid, layout_of}
use Rattle.layout.specs.Numbers.{too_deep, no_room}
use Rattle.layout.proofs.Places.{held}

-- ---- what is computed, case by case

-- the answer to bytes whose records are a plan of n bytes with this network
rest_of : Network → ℕ → ℕ → ℕ → Laid
rest_of net n depth room =
    if_lt (first_unjoined net) (nodes_of net) (laid unjoined (first_unjoined net))
    (if_lt 63 depth (laid too_deep 0) (if_lt room n (laid no_room 0) (laid accepted n)))

listed : (s : List ℕ) (n depth room : ℕ) (net : Network) → lists_of s ≡ accepted_with n net → layout_of s depth room ≡ rest_of (with_sets net) n depth room
unfolding layout_of rest_of
listed s n depth room net e = rw e (if_eq_yes accepted accepted _ _ refl)

refused : (s : List ℕ) (k w depth room : ℕ) → lists_of s ≡ refused_with k w → (k ≡ accepted → ⊥) → layout_of s depth room ≡ laid k w
unfolding layout_of
refused s k w depth room e d = rw e (if_eq_no k accepted _ _ d)

rest_cases :
    (net : Network) (n depth room : ℕ) (P : Laid → Type 0) → (first_unjoined net < nodes_of net → P (laid unjoined (first_unjoined net)))
    → (nodes_of net ≤ first_unjoined net → 63 < depth → P (laid too_deep 0))
    → (nodes_of net ≤ first_unjoined net → depth ≤ 63 → room < n → P (laid no_room 0))
    → (nodes_of net ≤ first_unjoined net → depth ≤ 63 → n ≤ room → P (laid accepted n))
    → P (rest_of net n depth room)
unfolding rest_of
rest_cases net n depth room P ten deep short fits =
    lt_elim P (first_unjoined net) (nodes_of net) (laid unjoined (first_unjoined net)) _ ten
    (λ j. lt_elim P 63 depth (laid too_deep 0) _ (deep j) (λ d. lt_elim P room n (laid no_room 0) (laid accepted n) (short j d) (fits j d)))

-- ---- check 10

module _ (p : Plan) where
  abbrev net : Network
  net = plan_network p

  all_joined : nodes_of (plan_network p) ≤ first_unjoined (plan_network p) → AllJoined p
  all_joined h =
      let b = unjoined_is_breach net in
      (none_exactly b).0 (omega (arith, b.within))

  none_unjoined : AllJoined p → nodes_of (plan_network p) ≤ first_unjoined (plan_network p)
  none_unjoined j = omega (arith, (none_exactly (unjoined_is_breach net)).1 j)

  first_broken : first_unjoined (plan_network p) < nodes_of (plan_network p) → FirstBroken (JoinedIn (plan_network p)) (nodes_of (plan_network p)) (first_unjoined (plan_network p))
  first_broken h =
      let b = unjoined_is_breach net in
      record { below = h; broken = b.broken h; kept_before = b.kept_before }

  broken_first : (w : ℕ) → FirstBroken (JoinedIn (plan_network p)) (nodes_of (plan_network p)) w → first_unjoined (plan_network p) ≡ w
  broken_first w f = (breach_exactly (unjoined_is_breach net) w f.below).1 (f.broken, f.kept_before)

-- ---- from what the bytes hold to the answer

-- a plan that the bytes hold is what the records come to
pub holds_lists : {s : List ℕ} {n : ℕ} {p : Plan} → Holds s n p → lists_of s ≡ accepted_with n (network_of p)
holds_lists {s} {n} {p} H =
    accepted_answer s n (network_of p) (record { plan = p; keeps = H.keeps; within = H.within; bytes = H.bytes; network = refl })

module _ (s : List ℕ) (depth room : ℕ) where
  holds_rest : {n : ℕ} {p : Plan} → Holds s n p → layout_of s depth room ≡ rest_of (plan_network p) n depth room
  holds_rest {n} {p} H = listed s n depth room (network_of p) (holds_lists H)

  pub told_answer : (k w : ℕ) → LayoutAnswer s depth room k w → layout_of s depth room ≡ laid k w
  unfolding rest_of
  told_answer k w (by_record F) = refused s k w depth room (refused_answer s k w F) (refused_is_no_0 F)
  told_answer k w (by_10 n p e H f) =
      let q = broken_first p w f in
      holds_rest H ∙ if_lt_yes (first_unjoined (plan_network p)) (nodes_of (plan_network p)) _ _ (omega (arith, f.below)) ∙ ap₂ laid (sym e) q
  told_answer k w (by_22 n p e z H j d) =
      holds_rest H
      ∙ if_lt_no (first_unjoined (plan_network p)) (nodes_of (plan_network p)) _ _ (none_unjoined p j)
      ∙ if_lt_yes 63 depth _ _ d
      ∙ ap₂ laid (sym e) (sym z)
  told_answer k w (by_23 n p e z H j d r) =
      holds_rest H
      ∙ if_lt_no (first_unjoined (plan_network p)) (nodes_of (plan_network p)) _ _ (none_unjoined p j)
      ∙ if_lt_no 63 depth _ _ d
      ∙ if_lt_yes room n _ _ r
      ∙ ap₂ laid (sym e) (sym z)
  told_answer k w (laid_out_lem p e H j d r) =
      holds_rest H
      ∙ if_lt_no (first_unjoined (plan_network p)) (nodes_of (plan_network p)) _ _ (none_unjoined p j)
      ∙ if_lt_no 63 depth _ _ d
      ∙ if_lt_no room w _ _ r
      ∙ ap (λ x. laid x w) (sym e)

  -- ---- from the answer to what the bytes hold

  module _ (small : Bytes s) where
    Told : Laid → Type 0
    Told x = LayoutAnswer s depth room x.number x.place

    pub answer_told : LayoutAnswer s depth room (layout_of s depth room).number (layout_of s depth room).place
    unfolding Told
    answer_told = ⊎_elim whole broken (every_answer s small)
      where
        broken : (k : ℕ) × (w : ℕ) × (lists_of s ≡ refused_with k w) × (k ≡ accepted → ⊥) → Told (layout_of s depth room)
        broken (k, w, e, d) = subst Told (sym (refused s k w depth room e d)) (by_record (answer_refused s small k w e))

        whole : (n : ℕ) × (net : Network) × (lists_of s ≡ accepted_with n net) → Told (layout_of s depth room)
        whole (n, other, e) =
            let A = held s small (ap (λ x. x.number) e) in
            let p = A.plan in
            let m = (lists_of s).place in
            let H : Holds s m p = record { keeps = A.keeps; within = A.within; bytes = A.bytes } in
            subst Told (sym (holds_rest H))
            (rest_cases (plan_network p) m depth room Told (λ h. by_10 m p refl H (first_broken p h)) (λ h d. by_22 m p refl refl H (all_joined p h) d) (λ h d r. by_23 m p refl refl H (all_joined p h) d r) (λ h d r. laid_out_lem p refl H (all_joined p h) d r))

    -- number k at place w, exactly if document 02 gives them
    pub layout_exactly : (k w : ℕ) → (layout_of s depth room ≡ laid k w) ↔ LayoutAnswer s depth room k w
    layout_exactly k w =
        (λ e. subst₂ (LayoutAnswer s depth room) (ap (λ x. x.number) e) (ap (λ x. x.place) e) answer_told, told_answer k w)
