-- The code's tables of kinds beside the automaton's of actions. Each kind is one action's, with the numbers of its body; what a row of the code's
-- table says of the kind, the automaton's says of the action. The twenty rows are gone through here and nowhere else.
-- Assumes nothing.
use Prim.Native.Nat.{ℕ}
use mathlib.Core.Path.{◌≡◌, refl, sym, ◌∙◌, ap}
use mathlib.Core.Bool.{Bool, true, false}
use mathlib.Core.List.{List, [], ◌∷◌, ◌++◌, map}
use Rattle.actions.specs.declared.Kind.{Kind}
use Rattle.actions.specs.declared.Kind.TheVariants.{Output, PacketSent, PacketDelivered, AckSent, AckDelivered, Ok, SubtreeOkSent, SubtreeOkDelivered, ClusterOk, DownSent, DownDelivered, PreferredSent, PreferredDelivered, UpSent, UpDelivered, ClusterGo, SubtreeGoSent, SubtreeGoDelivered, Go, Input}
use Rattle.actions.specs.declared.Place.{Place}
use Rattle.actions.specs.declared.Does.{Does}
use Rattle.actions.specs.declared.Every.{Every}
use Rattle.actions.specs.Table.{place_of, every_of, does_of}
use Rattle.synchronizer.specs.Answer.{starts_round}
use Rattle.automaton.specs.Actions.{Act, decided, same, output, packet_sent, packet_delivered, ack_sent, ack_delivered, ok, subtree_ok_sent, subtree_ok_delivered, cluster_ok}
use Rattle.automaton.specs.Actions.{down_sent, down_delivered, preferred_sent, preferred_delivered, up_sent, up_delivered, cluster_go}
use Rattle.automaton.specs.Actions.{subtree_go_sent, subtree_go_delivered, go, input}
use Rattle.automaton.specs.Actions as Automaton
use Rattle.automaton.specs.Actions.{two, a_node, a_link, a_preferred_link, a_child, a_root, body_of}
use Rattle.automaton.specs.Network.{Net, neighbours, children, preferred_neighbours}
use Rattle.automaton.specs.Needs.{Need, has, had_before, packet_first, ack_first, know, may, subtree_needs, up_needs, needs_of}
use Rattle.automaton.specs.Answer.{sends}
use Rattle.automaton.proofs.Effects.{same_self}
use Rattle.laws.specs.Choice.{if_b}
use Rattle.laws.proofs.Choice.{if_b_yes}
use Rattle.guarantees.specs.Kinds.{kind_of}
use Rattle.guarantees.specs.Reading.{names_link}

-- the action of a kind and the numbers of its body
unfoldable pub action_of : Kind → ℕ → ℕ → Act
action_of Output p q = output p
action_of PacketSent p q = packet_sent p q
action_of PacketDelivered p q = packet_delivered p q
action_of AckSent p q = ack_sent p q
action_of AckDelivered p q = ack_delivered p q
action_of Ok p q = ok p
action_of SubtreeOkSent p q = subtree_ok_sent p
action_of SubtreeOkDelivered p q = subtree_ok_delivered p
action_of ClusterOk p q = cluster_ok p
action_of DownSent p q = down_sent p
action_of DownDelivered p q = down_delivered p
action_of PreferredSent p q = preferred_sent p q
action_of PreferredDelivered p q = preferred_delivered p q
action_of UpSent p q = up_sent p
action_of UpDelivered p q = up_delivered p
action_of ClusterGo p q = cluster_go p
action_of SubtreeGoSent p q = subtree_go_sent p
action_of SubtreeGoDelivered p q = subtree_go_delivered p
action_of Go p q = go p
action_of Input p q = input p

-- the place, in the automaton's words
unfoldable pub place_as : Place → Automaton.Place
place_as Place.Node = a_node
place_as Place.Link = a_link
place_as Place.PreferredLink = a_preferred_link
place_as Place.Child = a_child
place_as Place.Root = a_root

-- the action puts a message into a queue
unfoldable pub sends_one : Does → Bool
sends_one Does.Starts = false
sends_one Does.Counts = false
sends_one Does.SendsPacket = true
sends_one Does.SendsAck = true
sends_one Does.TakesPacket = false
sends_one Does.TakesAck = false
sends_one Does.Means = false

-- the action looks at a queue
unfoldable pub moves : Does → Bool
moves Does.Starts = false
moves Does.Counts = false
moves Does.SendsPacket = true
moves Does.SendsAck = true
moves Does.TakesPacket = true
moves Does.TakesAck = true
moves Does.Means = false

-- an action's kind and body, where the action comes from a kind and two numbers: a body that names no link has one number
pub record Named (k : Kind) (p q : ℕ) (a : Act) : Type 0 where
  pub kind : kind_of a ≡ k
  pub body : body_of a ≡ two (place_as (place_of k)) p (if_b (names_link (place_as (place_of k))) q p)

pub named : (k : Kind) (p q : ℕ) → Named k p q (action_of k p q)
unfolding action_of kind_of body_of names_link place_as place_of if_b
named Output p q = record { kind = refl; body = refl }
named PacketSent p q = record { kind = refl; body = refl }
named PacketDelivered p q = record { kind = refl; body = refl }
named AckSent p q = record { kind = refl; body = refl }
named AckDelivered p q = record { kind = refl; body = refl }
named Ok p q = record { kind = refl; body = refl }
named SubtreeOkSent p q = record { kind = refl; body = refl }
named SubtreeOkDelivered p q = record { kind = refl; body = refl }
named ClusterOk p q = record { kind = refl; body = refl }
named DownSent p q = record { kind = refl; body = refl }
named DownDelivered p q = record { kind = refl; body = refl }
named PreferredSent p q = record { kind = refl; body = refl }
named PreferredDelivered p q = record { kind = refl; body = refl }
named UpSent p q = record { kind = refl; body = refl }
named UpDelivered p q = record { kind = refl; body = refl }
named ClusterGo p q = record { kind = refl; body = refl }
named SubtreeGoSent p q = record { kind = refl; body = refl }
named SubtreeGoDelivered p q = record { kind = refl; body = refl }
named Go p q = record { kind = refl; body = refl }
named Input p q = record { kind = refl; body = refl }

-- ---- what an action needs, as the code's table has it: one count, what is first in a queue, and the counts of every neighbour or child

-- the action whose count is needed
unfoldable pub needed : Net ℕ → Act → Act
needed net (output p) = input p
needed net (packet_sent p q) = output p
needed net (packet_delivered p q) = packet_sent p q
needed net (ack_sent p q) = packet_delivered q p
needed net (ack_delivered p q) = ack_sent p q
needed net (ok p) = output p
needed net (subtree_ok_sent p) = ok p
needed net (subtree_ok_delivered p) = subtree_ok_sent p
needed net (cluster_ok p) = ok p
needed net (down_sent p) = know net (net.parent p)
needed net (down_delivered p) = down_sent p
needed net (preferred_sent p q) = know net p
needed net (preferred_delivered p q) = preferred_sent p q
needed net (up_sent p) = know net p
needed net (up_delivered p) = up_sent p
needed net (cluster_go p) = know net p
needed net (subtree_go_sent p) = may net (net.parent p)
needed net (subtree_go_delivered p) = subtree_go_sent p
needed net (go p) = may net p
needed net (input p) = go p

-- an output asks for the round before
unfoldable pub leading : Bool → Act → Need
leading starts b = if_b starts (had_before b) (has b)

unfoldable pub queue_needs : Does → ℕ → ℕ → List Need
queue_needs Does.Starts p q = []
queue_needs Does.Counts p q = []
queue_needs Does.SendsPacket p q = []
queue_needs Does.SendsAck p q = []
queue_needs Does.TakesPacket p q = packet_first p q ∷ []
queue_needs Does.TakesAck p q = ack_first p q ∷ []
queue_needs Does.Means p q = []

unfoldable pub every_needs : Net ℕ → Every → ℕ → List Need
every_needs net Every.Nobody p = []
every_needs net (Every.Neighbour k) p = map (λ q. has (action_of k q p)) (neighbours net p)
every_needs net (Every.Child k) p = map (λ c. has (action_of k c c)) (children net p)
every_needs net (Every.ChildAndPreferred k j) p =
    map (λ c. has (action_of k c c)) (children net p) ++ map (λ q. has (action_of j q p)) (preferred_neighbours net p)

-- a count of every neighbour is one of a direction, a count of every child one of a node
unfoldable pub Fitting : Every → Type 0
Fitting Every.Nobody = Unit {0}
Fitting (Every.Neighbour k) = names_link (place_as (place_of k)) ≡ true
Fitting (Every.Child k) = names_link (place_as (place_of k)) ≡ false
Fitting (Every.ChildAndPreferred k j) = (names_link (place_as (place_of k)) ≡ false) × (names_link (place_as (place_of j)) ≡ true)

-- ---- what the two tables say of one action

pub record Row (a : Act) : Type 0 where
  pub rebuilt : action_of (kind_of a) (body_of a).p (body_of a).q ≡ a
  pub starts : same a (output (body_of a).p) ≡ starts_round (does_of (kind_of a))
  pub sending : sends a (body_of a).p (body_of a).q ≡ sends_one (does_of (kind_of a))
  pub fitting : Fitting (every_of (kind_of a))
  pub needs : (net : Net ℕ) → needs_of net a ≡ leading (starts_round (does_of (kind_of a))) (needed net a) ∷ queue_needs (does_of (kind_of a)) (body_of a).p (body_of a).q ++ every_needs net (every_of (kind_of a)) (body_of a).p

pub row_of : (a : Act) → Row a
unfolding action_of kind_of body_of names_link place_as place_of same decided starts_round does_of sends sends_one if_b every_of Fitting needs_of subtree_needs up_needs leading needed queue_needs every_needs
row_of (output p) = record { rebuilt = refl; starts = same_self (output p); sending = refl; fitting = tt; needs = λ net. refl }
row_of (packet_sent p q) = record { rebuilt = refl; starts = refl; sending = if_b_yes _ true _ (same_self (packet_sent p q)); fitting = tt; needs = λ net. refl }
row_of (packet_delivered p q) = record { rebuilt = refl; starts = refl; sending = refl; fitting = tt; needs = λ net. refl }
row_of (ack_sent p q) = record { rebuilt = refl; starts = refl; sending = same_self (ack_sent p q); fitting = tt; needs = λ net. refl }
row_of (ack_delivered p q) = record { rebuilt = refl; starts = refl; sending = refl; fitting = tt; needs = λ net. refl }
row_of (ok p) = record { rebuilt = refl; starts = refl; sending = refl; fitting = refl; needs = λ net. refl }
row_of (subtree_ok_sent p) = record { rebuilt = refl; starts = refl; sending = refl; fitting = refl; needs = λ net. refl }
row_of (subtree_ok_delivered p) = record { rebuilt = refl; starts = refl; sending = refl; fitting = tt; needs = λ net. refl }
row_of (cluster_ok p) = record { rebuilt = refl; starts = refl; sending = refl; fitting = refl; needs = λ net. refl }
row_of (down_sent p) = record { rebuilt = refl; starts = refl; sending = refl; fitting = tt; needs = λ net. refl }
row_of (down_delivered p) = record { rebuilt = refl; starts = refl; sending = refl; fitting = tt; needs = λ net. refl }
row_of (preferred_sent p q) = record { rebuilt = refl; starts = refl; sending = refl; fitting = tt; needs = λ net. refl }
row_of (preferred_delivered p q) = record { rebuilt = refl; starts = refl; sending = refl; fitting = tt; needs = λ net. refl }
row_of (up_sent p) = record { rebuilt = refl; starts = refl; sending = refl; fitting = (refl, refl); needs = λ net. refl }
row_of (up_delivered p) = record { rebuilt = refl; starts = refl; sending = refl; fitting = tt; needs = λ net. refl }
row_of (cluster_go p) = record { rebuilt = refl; starts = refl; sending = refl; fitting = (refl, refl); needs = λ net. refl }
row_of (subtree_go_sent p) = record { rebuilt = refl; starts = refl; sending = refl; fitting = tt; needs = λ net. refl }
row_of (subtree_go_delivered p) = record { rebuilt = refl; starts = refl; sending = refl; fitting = tt; needs = λ net. refl }
row_of (go p) = record { rebuilt = refl; starts = refl; sending = refl; fitting = tt; needs = λ net. refl }
row_of (input p) = record { rebuilt = refl; starts = refl; sending = refl; fitting = tt; needs = λ net. refl }

-- the place of an action is that of its kind, and where it names no link its two numbers are one
pub body_is : (a : Act) → body_of a ≡ two (place_as (place_of (kind_of a))) (body_of a).p (if_b (names_link (place_as (place_of (kind_of a)))) (body_of a).q (body_of a).p)
body_is a = ap body_of (sym (row_of a).rebuilt) ∙ (named (kind_of a) (body_of a).p (body_of a).q).body

-- ---- what an action does besides counting

-- nothing
unfoldable pub quiet : Does → Bool
quiet Does.Starts = true
quiet Does.Counts = true
quiet Does.SendsPacket = false
quiet Does.SendsAck = false
quiet Does.TakesPacket = false
quiet Does.TakesAck = false
quiet Does.Means = false

-- five actions do something
pub data Doing : Act → Type 0 where
  packet_joins : (p q : ℕ) → Doing (packet_sent p q)
  packet_leaves : (p q : ℕ) → Doing (packet_delivered p q)
  ack_joins : (p q : ℕ) → Doing (ack_sent p q)
  ack_leaves : (p q : ℕ) → Doing (ack_delivered p q)
  means : (p : ℕ) → Doing (input p)
  nothing : {a : Act} → quiet (does_of (kind_of a)) ≡ true → Doing a

pub doing : (a : Act) → Doing a
unfolding quiet does_of kind_of
doing (output p) = nothing refl
doing (packet_sent p q) = packet_joins p q
doing (packet_delivered p q) = packet_leaves p q
doing (ack_sent p q) = ack_joins p q
doing (ack_delivered p q) = ack_leaves p q
doing (ok p) = nothing refl
doing (subtree_ok_sent p) = nothing refl
doing (subtree_ok_delivered p) = nothing refl
doing (cluster_ok p) = nothing refl
doing (down_sent p) = nothing refl
doing (down_delivered p) = nothing refl
doing (preferred_sent p q) = nothing refl
doing (preferred_delivered p q) = nothing refl
doing (up_sent p) = nothing refl
doing (up_delivered p) = nothing refl
doing (cluster_go p) = nothing refl
doing (subtree_go_sent p) = nothing refl
doing (subtree_go_delivered p) = nothing refl
doing (go p) = nothing refl
doing (input p) = means p
