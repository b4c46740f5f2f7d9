-- What the promise of `trial` comes to: it allows one answer and one buffer, the answer counts bytes of the buffer, 0 says that the text has no
-- room, and a buffer of 2,048 bytes holds every text whole.
-- Assumes nothing.
use Prim.Native.Nat.{ℕ, ◌+◌, ◌<◌, ◌≤◌}
use native.Mathlib.Omega.{arith}
use mathlib.Core.Path.{◌≡◌, refl, sym, ◌∙◌, ap}
use mathlib.Core.Logic.{◌↔◌}
use mathlib.Core.List.{List, [], ◌∷◌, ◌++◌}
use lib.ListN.{length, drop, length-append, length-drop}
use Rattle.laws.proofs.Choice.{if_lt_yes, if_lt_no, lt_elim, eq_elim}
use Rattle.network.specs.declared.Network.{Network}
use Rattle.records.specs.Planned.{Planned}
use Rattle.clusters.specs.Clusters.{cluster_count}
use Rattle.plan.specs.Checks.{plan_of}
use Rattle.synchronizer.specs.declared.Ran.{Ran}
use Rattle.synchronizer.specs.Start.{start_of}
use Rattle.synchronizer.specs.Entry.{list_of}
use Rattle.text.specs.Lines.{fields, line}
use Rattle.report.specs.Lines.{plan_line, node_lines, taken_line, end_line}
use Rattle.report.specs.Report.{run_text, list_text, planned_text, text_of, written_in, filled_by, Printed}

pub printed_unique : {bytes before after after' : List ℕ} {answer answer' : ℕ} → Printed bytes before answer after → Printed bytes before answer' after' → (answer ≡ answer') × (after ≡ after')
printed_unique p q = (p.count ∙ sym q.count, p.held ∙ sym q.held)

-- ---- the answer counts bytes of the buffer

pub written_within : (room : ℕ) (text : List ℕ) → written_in room text ≤ room
unfolding written_in
written_within room text =
    lt_elim (λ n. n ≤ room) room (length text) 0 (length text) (λ _. omega arith) (λ h. h)

pub filled_length : (out text : List ℕ) → length (filled_by out text) ≡ length out
unfolding filled_by
filled_length out text =
    lt_elim (λ after. length after ≡ length out) (length out) (length text) out (text ++ drop (length text) out) (λ _. refl)
    (λ h. omega (arith, length-append text (drop (length text) out), length-drop (length text) out))

pub answer_within : {bytes before after : List ℕ} {answer : ℕ} → Printed bytes before answer after → answer ≤ length after
answer_within {bytes} {before} p =
    omega (arith, p.count, written_within (length before) (text_of bytes), ap length p.held, filled_length before (text_of bytes))

-- ---- a page is long enough

pub page_holds : {bytes before after : List ℕ} {answer : ℕ} → 2048 ≤ length before → Printed bytes before answer after → (answer ≡ length (text_of bytes)) × (after ≡ text_of bytes ++ drop (length (text_of bytes)) before)
unfolding written_in filled_by
page_holds {bytes} {before} h p =
    let room : length (text_of bytes) ≤ length before = omega (arith, p.at_most_2048) in (
      p.count ∙ if_lt_no (length before) (length (text_of bytes)) 0 (length (text_of bytes)) room,
      p.held ∙ if_lt_no (length before) (length (text_of bytes)) before (text_of bytes ++ drop (length (text_of bytes)) before) room,
    )

-- ---- a text is never empty, so 0 says that there is no room

abbrev Some : List ℕ → Type 0
Some text = 0 < length text

line_some : (name numbers : List ℕ) → Some (line name numbers)
unfolding line
line_some name numbers = omega (arith, length-append (name ++ fields numbers) (10 ∷ []))

run_some : (net : Network) (from : ℕ) (ran : Ran) → Some (run_text net from ran)
unfolding run_text
run_some net from ran =
    omega (arith, length-append (plan_line net.nodes net.links (cluster_count net) net.rounds ++ node_lines ran.state.counts ran.state.values net.nodes ++ taken_line ran.taken) (end_line ran.answer (from + ran.place)), line_some (101 ∷ 110 ∷ 100 ∷ []) (ran.answer ∷ (from + ran.place) ∷ []))

planned_some : (bytes : List ℕ) (planned : Planned) → Some (planned_text bytes planned)
unfolding planned_text list_text
planned_some bytes planned =
    eq_elim Some planned.number 0 (list_text bytes planned.place planned.network) (end_line planned.number planned.place)
    (λ _. run_some planned.network planned.place (list_of planned.network (start_of planned.network).state (drop planned.place bytes)))
    (λ _. line_some (101 ∷ 110 ∷ 100 ∷ []) (planned.number ∷ planned.place ∷ []))

pub text_some : (bytes : List ℕ) → Some (text_of bytes)
unfolding text_of
text_some bytes =
    lt_elim Some 65536 (length bytes) (end_line 19 65536) (planned_text bytes (plan_of bytes)) (λ _. line_some (101 ∷ 110 ∷ 100 ∷ []) (19 ∷ 65536 ∷ []))
    (λ _. planned_some bytes (plan_of bytes))

pub zero_means_no_room : {bytes before after : List ℕ} {answer : ℕ} → Printed bytes before answer after → (answer ≡ 0) ↔ (length before < length (text_of bytes))
unfolding written_in
zero_means_no_room {bytes} {before} {after} {answer} p = (
  λ none. lt_elim (λ n. answer ≡ n → length before < length (text_of bytes)) (length before) (length (text_of bytes)) 0 (length (text_of bytes)) (λ h _. h) (λ _ e. absurd (omega (arith, text_some bytes))) p.count,
  λ h. p.count ∙ if_lt_yes (length before) (length (text_of bytes)) 0 (length (text_of bytes)) h,
)
