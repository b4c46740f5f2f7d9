-- Document 01's table "Actions and when each is taken", a column at a time, in its order and its words.
-- Assumes nothing.
use Rattle.std.specs.Prelude.{ℕ, Bool}
use Rattle.laws.specs.Choice.{if_b}
use Rattle.actions.specs.declared.Kind.{Kind}
use Rattle.actions.specs.declared.Kind.TheVariants.{Output, PacketSent, PacketDelivered, AckSent, AckDelivered, Ok, SubtreeOkSent, SubtreeOkDelivered, ClusterOk, DownSent, DownDelivered, PreferredSent, PreferredDelivered, UpSent, UpDelivered, ClusterGo, SubtreeGoSent, SubtreeGoDelivered, Go, Input}
use Rattle.actions.specs.declared.Place.{Place}
use Rattle.actions.specs.declared.Counter.{Counter}
use Rattle.actions.specs.declared.Around.{Around}
use Rattle.actions.specs.declared.Every.{Every}
use Rattle.actions.specs.declared.Does.{Does}
use Rattle.actions.specs.Kinds.{count}

-- What the numbers of a body name. Bodies "p q" name the ends of a link; 22, 23, 25, 26, 29, 30, 32 and 33 a node with a parent; 24 and 31 a root.
unfoldable pub place_of : Kind → Place
place_of Output = Place.Node
place_of PacketSent = Place.Link
place_of PacketDelivered = Place.Link
place_of AckSent = Place.Link
place_of AckDelivered = Place.Link
place_of Ok = Place.Node
place_of SubtreeOkSent = Place.Child
place_of SubtreeOkDelivered = Place.Child
place_of ClusterOk = Place.Root
place_of DownSent = Place.Child
place_of DownDelivered = Place.Child
place_of PreferredSent = Place.PreferredLink
place_of PreferredDelivered = Place.PreferredLink
place_of UpSent = Place.Child
place_of UpDelivered = Place.Child
place_of ClusterGo = Place.Root
place_of SubtreeGoSent = Place.Child
place_of SubtreeGoDelivered = Place.Child
place_of Go = Place.Node
place_of Input = Place.Node

-- "Every action has a count of times taken": where the numbers name a link, one for its direction from p to q
unfoldable pub own_of : Place → Kind → ℕ → ℕ → Counter
own_of Place.Node k p lane = count k p
own_of Place.Link k p lane = count k lane
own_of Place.PreferredLink k p lane = count k lane
own_of Place.Child k p lane = count k p
own_of Place.Root k p lane = count k p

-- "A root knows by 24, another node by 26."
unfoldable pub knows_by : Bool → ℕ → Counter
knows_by root p = if_b root (count ClusterOk p) (count DownDelivered p)

-- "A root may go by 31, another by 33."
unfoldable pub may_go_by : Bool → ℕ → Counter
may_go_by root p = if_b root (count ClusterGo p) (count SubtreeGoDelivered p)

-- The last column, what it says of one other count: p's own, its parent's, or one along the direction from p to q or back.
unfoldable pub need_of : Kind → ℕ → Around → Counter
-- "inputs of p at least i − 1"
need_of Output p a = count Input p
-- "p has output"
need_of PacketSent p a = count Output p
-- "sent"
need_of PacketDelivered p a = count PacketSent a.lane
-- "packet q to p delivered"
need_of AckSent p a = count PacketDelivered a.back
-- "sent"
need_of AckDelivered p a = count AckSent a.lane
-- "output"
need_of Ok p a = count Output p
-- "p has ok"; "sent"
need_of SubtreeOkSent p a = count Ok p
need_of SubtreeOkDelivered p a = count SubtreeOkSent p
-- "same needs as 22"
need_of ClusterOk p a = count Ok p
-- "parent knows; sent"
need_of DownSent p a = knows_by a.rooted a.parent
need_of DownDelivered p a = count DownSent p
-- "p knows; sent"
need_of PreferredSent p a = knows_by a.root p
need_of PreferredDelivered p a = count PreferredSent a.lane
-- "p knows"; "sent"
need_of UpSent p a = knows_by a.root p
need_of UpDelivered p a = count UpSent p
-- "same needs as 29"
need_of ClusterGo p a = knows_by a.root p
-- "parent may go; sent"
need_of SubtreeGoSent p a = may_go_by a.rooted a.parent
need_of SubtreeGoDelivered p a = count SubtreeGoSent p
-- "p may go"
need_of Go p a = may_go_by a.root p
-- "p has go"
need_of Input p a = count Go p

-- The last column, what it says of every child, neighbour or preferred link.
unfoldable pub every_of : Kind → Every
every_of Output = Every.Nobody
every_of PacketSent = Every.Nobody
every_of PacketDelivered = Every.Nobody
every_of AckSent = Every.Nobody
every_of AckDelivered = Every.Nobody
-- "ack delivered from every neighbour"
every_of Ok = Every.Neighbour AckDelivered
-- "subtree ok delivered from every child"
every_of SubtreeOkSent = Every.Child SubtreeOkDelivered
every_of SubtreeOkDelivered = Every.Nobody
every_of ClusterOk = Every.Child SubtreeOkDelivered
every_of DownSent = Every.Nobody
every_of DownDelivered = Every.Nobody
every_of PreferredSent = Every.Nobody
every_of PreferredDelivered = Every.Nobody
-- "up delivered from every child, preferred word delivered to p on each of its preferred links"
every_of UpSent = Every.ChildAndPreferred UpDelivered PreferredDelivered
every_of UpDelivered = Every.Nobody
every_of ClusterGo = Every.ChildAndPreferred UpDelivered PreferredDelivered
every_of SubtreeGoSent = Every.Nobody
every_of SubtreeGoDelivered = Every.Nobody
every_of Go = Every.Nobody
every_of Input = Every.Nobody

-- What an action does besides counting, and with it what it asks of the round and of the queue from p to q.
unfoldable pub does_of : Kind → Does
-- "i ≤ rounds", and its need is asked for the round before
does_of Output = Does.Starts
does_of PacketSent = Does.SendsPacket
-- "a packet is first on p to q"
does_of PacketDelivered = Does.TakesPacket
does_of AckSent = Does.SendsAck
-- "an ack is first on p to q"
does_of AckDelivered = Does.TakesAck
does_of Ok = Does.Counts
does_of SubtreeOkSent = Does.Counts
does_of SubtreeOkDelivered = Does.Counts
does_of ClusterOk = Does.Counts
does_of DownSent = Does.Counts
does_of DownDelivered = Does.Counts
does_of PreferredSent = Does.Counts
does_of PreferredDelivered = Does.Counts
does_of UpSent = Does.Counts
does_of UpDelivered = Does.Counts
does_of ClusterGo = Does.Counts
does_of SubtreeGoSent = Does.Counts
does_of SubtreeGoDelivered = Does.Counts
does_of Go = Does.Counts
-- "Input i of p sets its value to .."
does_of Input = Does.Means
