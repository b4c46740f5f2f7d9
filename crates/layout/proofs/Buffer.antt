-- What `laid_in` leaves in the buffer is `Written` if the answer is 0, and what stood there if not. So all that follows from `Written` holds of it;
-- and what it wrote, laid out again to the same depth, is written again.
-- Assumes nothing.
use Prim.Native.Nat.{ℕ, ◌≤◌}
use native.Mathlib.Omega.{arith}
use mathlib.Core.Path.{◌≡◌, refl, sym, ◌∙◌, ap, ap₂}
use mathlib.Core.List.{List}
use lib.ListN.{length, take, drop}
use Rattle.laws.proofs.Choice.{if_eq_yes, if_eq_no}
use Rattle.network.specs.Sets.{with_sets}
use Rattle.records.specs.Numbers.{accepted}
use Rattle.records.specs.Reader.{accepted_with}
use Rattle.records.specs.Plan.{Plan, bytes_of, Keeps1to5}
use Rattle.laws.specs.Lists.{Bytes}
use Rattle.records.proofs.Through.{refused_is_no_0}
use Rattle.plan.specs.Checks.{plan_of}
use Rattle.plan.specs.Accepted.{plan_network}
use Rattle.layout.specs.Answers.{Holds, AllJoined, LayoutAnswer, by_record, by_10, by_22, by_23, laid_out_lem, Written}
use Rattle.layout.specs.Layout.{laid, layout_of, laid_parents, laid_flags, copied, with_parents, with_flags, laid_over, laid_in}
use Rattle.layout.proofs.Answers.{holds_lists, told_answer, answer_told}
use Rattle.layout.proofs.Bytes.{replaced_in, laid_front, laid_rest}
use Rattle.layout.proofs.LaidPlan.{laid_plan, laid_plan_so}
use Rattle.layout.proofs.One.{laid_again, laid_one}
use Rattle.layout.proofs.Places.{all_nodes_lem, all_links}
use Rattle.layout.proofs.Written.{written_held, written_joined, written_accepted, written_from, written_one}

-- ---- bytes that hold a plan whose nodes are joined

-- the plan's bytes with the parents and flags of its own network, and behind them what stood there
abbrev laid_out : List ℕ → ℕ → ℕ → Plan → List ℕ → List ℕ
laid_out s n depth p out = replaced_in (laid_parents (plan_network p) depth) (laid_flags (plan_network p) depth) p (copied s n out)

laid_over_lem : (s : List ℕ) (n depth : ℕ) (p : Plan) (out : List ℕ) → Keeps1to5 p → laid_over s n (plan_network p) depth out ≡ laid_out s n depth p out
unfolding laid_over
laid_over_lem s n depth p out K =
    ap₂ (λ nodes links. with_flags (laid_flags (plan_network p) depth) nodes links (with_parents (laid_parents (plan_network p) depth) nodes (copied s n out))) (all_nodes_lem p K) (all_links p K)

module _ {s : List ℕ} {n : ℕ} {p : Plan} (H : Holds s n p) (joined : AllJoined p) {depth : ℕ} (shallow : depth ≤ 63) (out : List ℕ) (room : n ≤ length out) where
  joined_answer : layout_of s depth (length out) ≡ laid accepted n
  joined_answer = told_answer s depth (length out) accepted n (laid_out_lem p refl H joined shallow room)

  joined_in : laid_in s depth out ≡ laid_out s n depth p out
  unfolding laid_in
  joined_in =
      if_eq_yes (layout_of s depth (length out)).number accepted _ out (ap (λ x. x.number) joined_answer)
      ∙ ap (λ x. laid_over s x.place (with_sets x.network) depth out) (holds_lists H)
      ∙ laid_over_lem s n depth p out H.keeps

  joined_front : take n (laid_in s depth out) ≡ bytes_of (laid_plan depth p)
  joined_front =
      ap (take n) joined_in
      ∙ laid_front (laid_parents (plan_network p) depth) (laid_flags (plan_network p) depth) p s n out H.within room H.bytes

  joined_rest : drop n (laid_in s depth out) ≡ drop n out
  joined_rest =
      ap (drop n) joined_in
      ∙ laid_rest (laid_parents (plan_network p) depth) (laid_flags (plan_network p) depth) p s n out H.within room H.bytes

  joined_written : Written s depth out n (laid_in s depth out)
  joined_written =
      record {
        plan = p;
        given = H;
        joined = joined;
        shallow = shallow;
        room = room;
        laid_plan_lem = laid_plan depth p;
        as_asked = laid_plan_so depth p H.keeps;
        bytes = joined_front;
        rest = joined_rest;
      }

-- ---- any bytes

module _ (s : List ℕ) (depth : ℕ) (out : List ℕ) where
  -- "a refused layout writes nothing"
  pub laid_refused : ((layout_of s depth (length out)).number ≡ accepted → ⊥) → laid_in s depth out ≡ out
  unfolding laid_in
  laid_refused d = if_eq_no (layout_of s depth (length out)).number accepted _ out d

  accepted_writes : {k w : ℕ} → LayoutAnswer s depth (length out) k w → k ≡ accepted → Written s depth out w (laid_in s depth out)
  accepted_writes (by_record F) z = absurd (refused_is_no_0 F z)
  accepted_writes (by_10 n p e H f) z = absurd (omega arith)
  accepted_writes (by_22 n p e _ H j d) z = absurd (omega arith)
  accepted_writes (by_23 n p e _ H j d r) z = absurd (omega arith)
  accepted_writes (laid_out_lem p e H j d r) z = joined_written H j d out r

  -- how many bytes the plan takes
  abbrev place : ℕ
  place = (layout_of s depth (length out)).place

  module _ (small : Bytes s) (none : (layout_of s depth (length out)).number ≡ accepted) where
    -- an accepted layout writes the plan laid out by the rule ..
    pub laid_so : Written s depth out place (laid_in s depth out)
    laid_so = accepted_writes (answer_told s depth (length out) small) none

    -- .. and "nothing past the plan"
    pub laid_past : drop place (laid_in s depth out) ≡ drop place out
    laid_past = laid_so.rest

    -- "what is written is always accepted"
    pub laid_accepted : plan_of (laid_in s depth out) ≡ accepted_with place (plan_network laid_so.laid_plan_lem)
    laid_accepted = written_accepted laid_so

    -- bytes after kind 0 are neither read nor copied
    pub rest_not_read : (t : List ℕ) → place ≤ length t → take place t ≡ take place s → (layout_of t depth (length out) ≡ layout_of s depth (length out)) × (laid_in t depth out ≡ laid_in s depth out)
    rest_not_read t within e =
        let W = written_from laid_so t within e in
        let answer = joined_answer W.given W.joined W.shallow out W.room in
        let written = joined_written W.given W.joined W.shallow out W.room in
        (answer ∙ (λ i. record { number = sym none i; place = place }), (written_one written W).1)

-- ---- what was written, laid out again to the same depth

module _ {s : List ℕ} {depth : ℕ} {before : List ℕ} {n : ℕ} {after : List ℕ} (W : Written s depth before n after) (out : List ℕ) (room : n ≤ length out) where
  pub again_accepted : layout_of after depth (length out) ≡ laid accepted n
  again_accepted = joined_answer (written_held W) (written_joined W) W.shallow out room

  -- the same bytes come out
  pub again_same : take n (laid_in after depth out) ≡ take n after
  again_same =
      let K = (written_held W).keeps in
      joined_front (written_held W) (written_joined W) W.shallow out room
      ∙ ap bytes_of (laid_one (laid_plan_so depth W.laid_plan_lem K) (laid_again W.as_asked) K)
      ∙ sym W.bytes
