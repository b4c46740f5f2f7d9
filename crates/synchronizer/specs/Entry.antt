-- The entry points: an action by its method, one action from bytes, a list of actions. Each looks at 17 first, then goes by the same answer
-- and the same state after.
-- Assumes nothing.
use Rattle.std.specs.Prelude.{ℕ, zero, suc, ◌+◌, Bool, List, length, Result, Ok, Err}
use Rattle.laws.specs.Choice.{if_b, if_lt, if_eq, both}
use Rattle.answers.specs.declared.Refusal.{Refusal}
use Rattle.answers.specs.Numbers.{number_of}
use Rattle.network.specs.declared.Network.{Network}
use Rattle.network.specs.Valid.{valid_network}
use Rattle.actions.specs.declared.Kind.{Kind}
use Rattle.actions.specs.declared.Act.{Act}
use Rattle.actions.specs.Records.{read_at}
use Rattle.synchronizer.specs.declared.State.{State}
use Rattle.synchronizer.specs.declared.Done.{Done}
use Rattle.synchronizer.specs.declared.Acted.{Acted}
use Rattle.synchronizer.specs.declared.Ran.{Ran}
use Rattle.synchronizer.specs.Wires.{Wires, wires_of}
use Rattle.synchronizer.specs.Answer.{answer_in}
use Rattle.synchronizer.specs.After.{after_in}
use Rattle.synchronizer.specs.Valid.{valid_state}

abbrev pub done : ℕ → State → Done
done answer s = record { answer = answer; state = s }

abbrev pub acted : ℕ → ℕ → State → Acted
acted answer place s = record { answer = answer; place = place; state = s }

abbrev pub ran : ℕ → ℕ → ℕ → State → Ran
ran answer place taken s = record { answer = answer; place = place; taken = taken; state = s }

-- not 17: "handed-in network or state outside the ranges"
unfoldable pub in_range : Network → State → Bool
in_range net s = both (valid_network net) (valid_state net s)

-- "It is taken exactly if .. no refusal below applies"; a refused action hands the state back as it came
unfoldable pub done_in : Wires → State → Kind → ℕ → ℕ → Done
done_in w s k p q = if_eq (answer_in w s k p q) 0 (done 0 (after_in w s k p q)) (done (answer_in w s k p q) s)

-- each of the twenty methods; where an action has one node, q is p
unfoldable pub done_of : Network → State → Kind → ℕ → ℕ → Done
done_of net s k p q = if_b (in_range net s) (done_in (wires_of net) s k p q) (done 17 s)

-- the bytes read of an action that is taken; 0 of one that is refused
unfoldable pub acted_as : Done → ℕ → Acted
acted_as d width = if_eq d.answer 0 (acted 0 width d.state) (acted d.answer 0 d.state)

-- what a record comes to
unfoldable pub record_in : Wires → State → Result Act Refusal → Acted
record_in w s (Err e) = acted (number_of e) 0 s
record_in w s (Ok a) = acted_as (done_in w s a.kind a.p a.q) a.width

-- the record at a place of the bytes, taken or refused
unfoldable pub act_in : Wires → State → List ℕ → ℕ → Acted
act_in w s bytes at = record_in w s (read_at bytes at)

-- "Action order: 17, 11, 12, 13, 14, 15, 16, 18"; "handed in as no bytes gets 12, place 0; bytes after it are not read"
unfoldable pub act_of : Network → State → List ℕ → Acted
act_of net s bytes = if_b (in_range net s) (act_in (wires_of net) s bytes 0) (acted 17 0 s)

-- The list from a place on, where so many were taken before: "A list of actions stops at the first refusal and answers its number, its place
-- and how many were taken; the state is that after those taken". A record has two bytes or more, so there are fewer turns than bytes.
unfoldable pub list_from : ℕ → Wires → State → List ℕ → ℕ → ℕ → Ran
list_from zero w s bytes at taken = ran 0 at taken s
list_from (suc turns) w s bytes at taken =
    if_lt at (length bytes)
    (if_eq (act_in w s bytes at).answer 0
    (list_from turns w (act_in w s bytes at).state bytes (at + (act_in w s bytes at).place) (taken + 1))
    (ran (act_in w s bytes at).answer at taken s))
    (ran 0 at taken s)

-- "An empty list, if 17 does not apply, takes none and answers 0"
unfoldable pub list_of : Network → State → List ℕ → Ran
list_of net s bytes = if_b (in_range net s) (list_from (suc (length bytes)) (wires_of net) s bytes 0 0) (ran 17 0 0 s)
