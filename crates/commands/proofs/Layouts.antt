-- What `desk layout` prints does not depend on the page that the plan is laid out on: no plan has more than 836 bytes, and a page of so many gets the
-- answer, and the plan, that a buffer as long as the bytes gets.
-- Assumes nothing.
use Prim.Native.Nat.{ℕ, ◌<◌, ◌≤◌}
use native.Mathlib.Omega.{arith}
use mathlib.Core.Path.{◌≡◌, refl, sym, ◌∙◌, ap, subst, subst₂}
use mathlib.Core.List.{List, []}
use lib.ListN.{length, take}
use lib.Seq.{length-take-le}
use Rattle.laws.proofs.Choice.{if_lt_yes, if_lt_no, if_eq_yes, if_eq_no}
use Rattle.laws.specs.Lists.{Bytes}
use Rattle.records.specs.Plan.{Plan}
use Rattle.layout.specs.Laid.{Laid}
use Rattle.layout.specs.Answers.{Holds, LayoutAnswer, by_record, by_10, by_22, by_23, laid_out_lem, Written}
use Rattle.layout.specs.Layout.{layout_of, laid_in}
use Rattle.layout.specs.LaidOut.{SameWires}
use Rattle.layout.proofs.Answers.{answer_told, told_answer}
use Rattle.layout.proofs.Buffer.{laid_so}
use Rattle.layout.proofs.Records.{plan_length}
use Rattle.layout.proofs.Written.{one_held, written_alike, written_length}
use Rattle.commands.specs.Streams.{streams, refused_with, laid_streams, layout_streams}

-- rounds, 64 nodes, 128 links and kind 0
pub plan_short : {s : List ℕ} {n : ℕ} {p : Plan} → Holds s n p → n ≤ 836
plan_short {s} {n} {p} H =
    omega (arith, ap length H.bytes, length-take-le n s H.within, plan_length p, H.keeps.at_most_64_nodes, H.keeps.at_most_128_links)

module _ (s : List ℕ) (depth : ℕ) where
  pub too_long_lem : 65536 < length s → layout_streams s depth ≡ refused_with 19 65536
  unfolding layout_streams
  too_long_lem h = if_lt_yes 65536 (length s) (refused_with 19 65536) (laid_streams s depth (layout_of s depth (length s))) h

  module _ (small : Bytes s) (page : List ℕ) (room : 836 ≤ length page) where
    as_in_bytes : {k w : ℕ} → LayoutAnswer s depth (length page) k w → LayoutAnswer s depth (length s) k w
    as_in_bytes (by_record F) = by_record F
    as_in_bytes (by_10 n p e H f) = by_10 n p e H f
    as_in_bytes (by_22 n p e z H j d) = by_22 n p e z H j d
    as_in_bytes (by_23 n p e z H j d r) = absurd (omega (arith, plan_short H))
    as_in_bytes (laid_out_lem p e H j d r) = laid_out_lem p e H j d H.within

    same_answer : layout_of s depth (length page) ≡ layout_of s depth (length s)
    same_answer = sym (told_answer s depth (length s) _ _ (as_in_bytes (answer_told s depth (length page) small)))

    -- what a call on the page answers and leaves there
    module _ (fits : length s ≤ 65536) (r : Laid) (answer : r ≡ layout_of s depth (length page)) where
      judged : layout_streams s depth ≡ laid_streams s depth r
      unfolding layout_streams
      judged =
          if_lt_no 65536 (length s) (refused_with 19 65536) (laid_streams s depth (layout_of s depth (length s))) fits
          ∙ ap (laid_streams s depth) (sym (answer ∙ same_answer))

      pub refused_streams : (r.number ≡ 0 → ⊥) → layout_streams s depth ≡ refused_with r.number r.place
      unfolding laid_streams
      refused_streams other = judged ∙ if_eq_no r.number 0 _ (refused_with r.number r.place) other

      module _ (none : r.number ≡ 0) {after : List ℕ} (written : after ≡ laid_in s depth page) where
        on_page : Written s depth page r.place after
        on_page =
            subst₂ (Written s depth page) (ap (λ x. x.place) (sym answer)) (sym written) (laid_so s depth page small (ap (λ x. x.number) (sym answer) ∙ none))

        over_bytes : Written s depth s r.place (laid_in s depth s)
        over_bytes =
            subst (λ n. Written s depth s n (laid_in s depth s)) (ap (λ x. x.place) (sym (answer ∙ same_answer))) (laid_so s depth s small (ap (λ x. x.number) (sym (answer ∙ same_answer)) ∙ none))

        -- the page begins with the plan that is printed, as long as the answer's place says
        plan_there : take r.place after ≡ take r.place (laid_in s depth s)
        plan_there =
            written_alike on_page over_bytes (subst (SameWires on_page.plan) (one_held on_page.given over_bytes.given).1 (record { rounds = refl; starts = refl; lowers = refl; uppers = refl }))

        pub laid_streams_lem : layout_streams s depth ≡ streams (take r.place after) []
        unfolding laid_streams
        laid_streams_lem =
            judged
            ∙ if_eq_yes r.number 0 (streams (take r.place (laid_in s depth s)) []) (refused_with r.number r.place) none
            ∙ ap (λ text. streams text []) (sym plan_there)

        pub on_page_length : (r.place ≤ length page) × (length after ≡ length page)
        on_page_length = (on_page.room, written_length on_page)
