-- The code's kind of each action. Nothing that has to be believed goes through it: the laws and the bridge do.
-- Assumes nothing.
use Rattle.actions.specs.declared.Kind.{Kind}
use Rattle.actions.specs.declared.Kind.TheVariants.{Output, PacketSent, PacketDelivered, AckSent, AckDelivered, Ok, SubtreeOkSent, SubtreeOkDelivered, ClusterOk, DownSent, DownDelivered, PreferredSent, PreferredDelivered, UpSent, UpDelivered, ClusterGo, SubtreeGoSent, SubtreeGoDelivered, Go, Input}
use Rattle.automaton.specs.Actions.{Act, output, packet_sent, packet_delivered, ack_sent, ack_delivered, ok, subtree_ok_sent, subtree_ok_delivered, cluster_ok}
use Rattle.automaton.specs.Actions.{down_sent, down_delivered, preferred_sent, preferred_delivered, up_sent, up_delivered, cluster_go}
use Rattle.automaton.specs.Actions.{subtree_go_sent, subtree_go_delivered, go, input}

unfoldable pub kind_of : Act → Kind
kind_of (output p) = Output
kind_of (packet_sent p q) = PacketSent
kind_of (packet_delivered p q) = PacketDelivered
kind_of (ack_sent p q) = AckSent
kind_of (ack_delivered p q) = AckDelivered
kind_of (ok p) = Ok
kind_of (subtree_ok_sent p) = SubtreeOkSent
kind_of (subtree_ok_delivered p) = SubtreeOkDelivered
kind_of (cluster_ok p) = ClusterOk
kind_of (down_sent p) = DownSent
kind_of (down_delivered p) = DownDelivered
kind_of (preferred_sent p q) = PreferredSent
kind_of (preferred_delivered p q) = PreferredDelivered
kind_of (up_sent p) = UpSent
kind_of (up_delivered p) = UpDelivered
kind_of (cluster_go p) = ClusterGo
kind_of (subtree_go_sent p) = SubtreeGoSent
kind_of (subtree_go_delivered p) = SubtreeGoDelivered
kind_of (go p) = Go
kind_of (input p) = Input
