-- The text that a trial file gives (document 01, "The bench program").
-- Assumes nothing.
use Rattle.std.specs.Prelude.{ℕ, ◌+◌, ◌≤◌, ◌≡◌, List, ◌++◌, length, drop}
use Rattle.laws.specs.Lists.{Bytes}
use Rattle.laws.specs.Choice.{if_lt, if_eq}
use Rattle.network.specs.declared.Network.{Network}
use Rattle.records.specs.Planned.{Planned}
use Rattle.clusters.specs.Clusters.{cluster_count}
use Rattle.plan.specs.Checks.{plan_of}
use Rattle.synchronizer.specs.declared.Ran.{Ran}
use Rattle.synchronizer.specs.Start.{start_of}
use Rattle.synchronizer.specs.Entry.{list_of}
use Rattle.report.specs.Lines.{plan_line, node_lines, taken_line, end_line}

-- the plan and what its list of actions came to; "offsets counted from the start of the input", where the list begins at `from`
unfoldable pub run_text : Network → ℕ → Ran → List ℕ
run_text net from ran =
    plan_line net.nodes net.links (cluster_count net) net.rounds
    ++ node_lines ran.state.counts ran.state.values net.nodes
    ++ taken_line ran.taken
    ++ end_line ran.answer (from + ran.place)

-- "Bytes after kind 0 are the actions": the list from the plan's start state, after a plan that took n bytes
unfoldable pub list_text : List ℕ → ℕ → Network → List ℕ
list_text bytes n net = run_text net n (list_of net (start_of net).state (drop n bytes))

-- "After a plan refusal .. only the end line is printed"
unfoldable pub planned_text : List ℕ → Planned → List ℕ
planned_text bytes planned =
    if_eq planned.number 0 (list_text bytes planned.place planned.network)
    (end_line planned.number planned.place)

-- "After .. 19 only the end line is printed": "input longer than 65,536 bytes", whose place is 65,536, before any look at the plan
unfoldable pub text_of : List ℕ → List ℕ
text_of bytes = if_lt 65536 (length bytes) (end_line 19 65536) (planned_text bytes (plan_of bytes))

-- how much is written into a buffer of so many bytes: the whole text, or nothing where it has no room for the whole
unfoldable pub written_in : ℕ → List ℕ → ℕ
written_in room text = if_lt room (length text) 0 (length text)

-- the buffer afterwards: the text and the rest as before, or all as before
unfoldable pub filled_by : List ℕ → List ℕ → List ℕ
filled_by out text = if_lt (length out) (length text) out (text ++ drop (length text) out)

-- what a trial's call promises: the answer, the buffer afterwards, and how long a buffer is long enough
pub record Printed (bytes before : List ℕ) (answer : ℕ) (after : List ℕ) : Type 0 where
  pub count : answer ≡ written_in (length before) (text_of bytes)
  pub held : after ≡ filled_by before (text_of bytes)
  pub at_most_2048 : length (text_of bytes) ≤ 2048
  -- what is handed in is bytes, as its type says
  pub small : Bytes bytes
