-- Text that is written on a page with room for it stands there whole, and is then handed over whole or not at all.
-- Assumes nothing.
use Prim.Native.Nat.{ℕ, ◌<◌, ◌≤◌}
use mathlib.Core.Path.{◌≡◌, sym, ◌∙◌, ap}
use mathlib.Core.List.{List, ◌++◌}
use lib.ListN.{length, take, drop}
use lib.Seq.{take_at}
use Rattle.laws.proofs.Choice.{if_lt_yes, if_lt_no}
use Rattle.text.specs.Put.{Put}
use Rattle.text.proofs.Put.{put_fits}
use Rattle.report.specs.Report.{written_in, filled_by}

-- what a page with room for the text holds of it
module _ {page after text : List ℕ} {count : ℕ} (p : Put page 0 text count after) (short : length text ≤ length page) where
  pub all_of_it : count ≡ length text
  all_of_it = (put_fits p short).0

  pub stands_there : take count after ≡ text
  stands_there =
      ap (take count) (put_fits p short).1 ∙ take_at text (drop (length text) page) count (sym all_of_it)

module _ (out text : List ℕ) where
  pub no_room_lem : length out < length text → (0 ≡ written_in (length out) text) × (out ≡ filled_by out text)
  unfolding written_in filled_by
  no_room_lem h = (
    sym (if_lt_yes (length out) (length text) 0 (length text) h),
    sym (if_lt_yes (length out) (length text) out (text ++ drop (length text) out) h),
  )

  pub has_room : {next : ℕ} {after : List ℕ} → length text ≤ length out → next ≡ length text → after ≡ text ++ drop (length text) out → (next ≡ written_in (length out) text) × (after ≡ filled_by out text)
  unfolding written_in filled_by
  has_room h count held = (
    count ∙ sym (if_lt_no (length out) (length text) 0 (length text) h),
    held ∙ sym (if_lt_no (length out) (length text) out (text ++ drop (length text) out) h),
  )
