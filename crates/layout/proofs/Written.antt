-- What follows from `Written` alone, whatever the buffer was written by: the plan reader accepts the whole buffer, with the network of the plan that
-- is laid out; bytes that differ in parents and flags alone are laid out alike; and bytes, depth and buffer leave no choice of what is written.
-- Assumes nothing.
use Prim.Native.Nat.{ℕ, ◌≤◌}
use native.Mathlib.Omega.{arith}
use mathlib.Core.Path.{◌≡◌, refl, sym, ◌∙◌, ap, ap₂, subst}
use mathlib.Core.List.{List, ◌++◌}
use lib.ListN.{length, take, drop, length-take, length-drop, take-append-drop}
use lib.Seq.{length-take-le}
use Rattle.records.specs.Reader.{accepted_with}
use Rattle.records.specs.Plan.{Plan, bytes_of}
use Rattle.records.proofs.Networks.{one_plan}
use Rattle.plan.specs.Checks.{plan_of}
use Rattle.plan.specs.Accepted.{plan_network, Accepted}
use Rattle.plan.proofs.Answers.{accepted_plan}
use Rattle.layout.specs.Answers.{Holds, AllJoined, Written}
use Rattle.layout.specs.LaidOut.{SameWires}
use Rattle.layout.proofs.Answers.{holds_lists}
use Rattle.layout.proofs.Consequences.{laid_records, laid_keeps}
use Rattle.layout.proofs.One.{laid_forgets, laid_one}
use Rattle.layout.proofs.Records.{plan_length}
use Rattle.layout.proofs.Wires.{wires_nodes, wires_links, joined_same}

-- bytes hold one plan at the most
pub one_held : {s : List ℕ} {n m : ℕ} {p q : Plan} → Holds s n p → Holds s m q → (n ≡ m) × (p ≡ q)
one_held {p = p} {q = q} H J =
    let e = sym (holds_lists H) ∙ holds_lists J in
    (ap (λ x. x.place) e, one_plan p q (ap (λ x. x.network) e))

module _ {s : List ℕ} {depth : ℕ} {before : List ℕ} {n : ℕ} {after : List ℕ} (W : Written s depth before n after) where
  -- the plan that is laid out takes as many bytes
  same_length : length (bytes_of W.laid_plan_lem) ≡ n
  same_length =
      omega (arith, ap length W.given.bytes, length-take-le n s W.given.within, plan_length W.plan, plan_length W.laid_plan_lem, wires_nodes W.as_asked.same, wires_links W.as_asked.same)

  after_holds : n ≤ length after
  after_holds = omega (arith, same_length, ap length W.bytes, length-take n after)

  pub written_length : length after ≡ length before
  written_length =
      omega (arith, after_holds, W.room, ap length W.rest, length-drop n after, length-drop n before)

  -- the buffer holds the plan, and all its nodes are joined
  pub written_held : Holds after n W.laid_plan_lem
  written_held =
      record { keeps = laid_records W.as_asked W.given.keeps; within = after_holds; bytes = W.bytes }

  pub written_joined : AllJoined W.laid_plan_lem
  written_joined = joined_same W.as_asked.same W.joined

  -- "what is written is always accepted": the plan reader is given the whole buffer, whatever stands behind the plan
  pub written_plan : Accepted after n (plan_network W.laid_plan_lem)
  written_plan =
      record {
        plan = W.laid_plan_lem;
        keeps_records = written_held.keeps;
        keeps_whole = laid_keeps W.as_asked W.given.keeps W.joined;
        within = after_holds;
        bytes = W.bytes;
        network = refl;
      }

  pub written_accepted : plan_of after ≡ accepted_with n (plan_network W.laid_plan_lem)
  written_accepted = accepted_plan after n (plan_network W.laid_plan_lem) written_plan

  -- only the plan's own bytes count
  pub written_from : (t : List ℕ) → n ≤ length t → take n t ≡ take n s → Written t depth before n after
  written_from t within e =
      record {
        plan = W.plan;
        given = record { keeps = W.given.keeps; within = within; bytes = e ∙ W.given.bytes };
        joined = W.joined;
        shallow = W.shallow;
        room = W.room;
        laid_plan_lem = W.laid_plan_lem;
        as_asked = W.as_asked;
        bytes = W.bytes;
        rest = W.rest;
      }

-- bytes that differ in parents and flags alone are laid out alike
pub written_alike :
    {s t : List ℕ} {depth : ℕ} {before other : List ℕ} {n m : ℕ} {after after' : List ℕ} (W : Written s depth before n after) (X : Written t depth other m after')
    → SameWires W.plan X.plan → take n after ≡ take m after'
written_alike W X w =
    W.bytes
    ∙ ap bytes_of (laid_one (laid_forgets w W.as_asked) X.as_asked X.given.keeps)
    ∙ sym X.bytes

-- two buffers that are written so are one
pub written_one : {s : List ℕ} {depth : ℕ} {before : List ℕ} {n m : ℕ} {after after' : List ℕ} → Written s depth before n after → Written s depth before m after' → (n ≡ m) × (after ≡ after')
written_one {s} {depth} {before} {n} {m} {after} {after'} W X = (e, whole)
  where
    e : n ≡ m
    e = (one_held W.given X.given).0

    same : SameWires W.plan X.plan
    same =
        subst (SameWires W.plan) (one_held W.given X.given).1 (record { rounds = refl; starts = refl; lowers = refl; uppers = refl })

    whole : after ≡ after'
    whole =
        sym (take-append-drop n after)
        ∙ ap₂ (λ x y. x ++ y) (written_alike W X same) (W.rest ∙ ap (λ k. drop k before) e ∙ sym X.rest)
        ∙ take-append-drop m after'
