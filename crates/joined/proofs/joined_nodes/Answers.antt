use borrow.Author.Rules.{rules}
use Prim.Native.Nat.{◌<◌}
use native.Mathlib.Omega.{arith}
use mathlib.Core.Path.{◌≡◌, sym, ◌∙◌, ap, subst}
use Rattle.nodeset.specs.declared.NodeSet.{NodeSet}
use Rattle.nodeset.proofs.Walks.{lowest_low, lowest_in}
use Rattle.links.specs.Links.{nodes_of, links_of}
use Rattle.joined.specs.declared.Walk.{Walk}
use Rattle.joined.specs.Walk.{visited_of}
use Rattle.joined.proofs.Walking.{WalkingIn, Idle, ToVisit, start_walking, turned_of, turn_walking, end_is_joined, ahead, turn_ahead}
use Rattle.joined.proofs.joined_nodes.Goals as goal
use Rattle.joined.proofs.joined_nodes.Goals.{After-visit-walk}

-- the next to visit is still to visit
to-visit : (c : After-visit-walk) → ToVisit c.loop-walk.walk c.next-p.result
to-visit c =
    lowest_in c.loop-walk.walk.todo.marks c.next-p.result c.next-p.ensures (search rules) (search rules)

-- the walk after the turn
turn :
    (c : After-visit-walk)
    → c.visit-walk.result ≡ turned_of c.args.net.now.lowers c.args.net.now.uppers (links_of c.args.net.now) (nodes_of c.args.net.now) c.next-p.result c.loop-walk.walk
turn c =
    let net = c.args.net.now in
    c.visit-walk.ensures ∙ ap (visited_of net.lowers net.uppers (links_of net) (nodes_of net) c.next-p.result) c.taken.ensures

pub loop-walk-init : goal.loop-walk-init
loop-walk-init c =
    let net = c.args.net.now in
    subst (λ (s : NodeSet). WalkingIn net.lowers net.uppers (links_of net) (nodes_of net) Idle (record { reached = s; todo = s }))
    (ap (λ m. record { marks = m }) (sym c.insert-first.ensures))
    (start_walking net.lowers net.uppers (links_of net) (nodes_of net) (omega arith))

pub overflow_cast-p : goal.overflow_cast-p
overflow_cast-p c =
    omega (arith, lowest_low c.loop-walk.walk.todo.marks c.next-p.result c.next-p.ensures (search rules) (search rules))

pub loop-walk-smaller : goal.loop-walk-smaller
loop-walk-smaller c =
    let net = c.args.net.now in
    let walk = c.loop-walk.walk in
    let t = (goal.at.loop-walk-smaller c).After-visit-walk in
    subst (λ (w : Walk). ahead w < ahead walk) (sym (turn t)) (turn_ahead net.lowers net.uppers (links_of net) (nodes_of net) (omega arith) _ walk (to-visit t))

pub loop-walk-preserved : goal.loop-walk-preserved
loop-walk-preserved c =
    let net = c.args.net.now in
    let at = c.loop-walk in
    let t = (goal.at.loop-walk-preserved c).After-visit-walk in
    subst (WalkingIn net.lowers net.uppers (links_of net) (nodes_of net) Idle) (sym (turn t))
    (turn_walking net.lowers net.uppers (links_of net) (nodes_of net) (omega arith) _ at.walk at.invariant (to-visit t))

pub returns : goal.returns
returns c =
    let net = c.args.net.now in
    let at = c.loop-walk in
    end_is_joined net.lowers net.uppers (links_of net) (nodes_of net) (omega arith) at.walk (search rules) (search rules) at.invariant
