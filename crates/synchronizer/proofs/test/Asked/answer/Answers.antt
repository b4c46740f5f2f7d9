-- `answer`: the row of each kind is the definition's table's.
use mathlib.Core.Path.{refl, sym}
use Rattle.laws.specs.Choice.{if_b}
use Rattle.actions.specs.Table.{place_of, own_of, need_of, every_of, does_of}
use Rattle.synchronizer.specs.Wires.{around_of}
use Rattle.synchronizer.specs.Answer.{stands_in, starts_round, every_has, queue_answer, own_in}
use Rattle.synchronizer.proofs.Rows.{shows_as}
use Rattle.synchronizer.proofs.Answers.{answer_of_output, test_told, row_told}
use Rattle.synchronizer.proofs.test.Asked.answer.Goals as goal

pub returns-in-Output : goal.returns-in-Output
unfolding own_in own_of place_of
returns-in-Output c =
    let w = c.args.self.now.wires.now in
    let s = c.args.self.now.state.now in
    test_told _ _ _ _ _ _ _ c.in-Output.is (shows_as _ _ _ _ _ _ (sym (answer_of_output w s _ _ c.requires.0 c.requires.1)) c.may_begin.ensures)

pub returns-in-PacketSent : goal.returns-in-PacketSent
unfolding place_of own_of need_of every_of does_of stands_in starts_round every_has queue_answer around_of if_b
returns-in-PacketSent c = row_told _ _ _ _ _ _ _ _ _ c.in-PacketSent.is c.requires.0 c.requires.1 refl c.row.ensures c.at.ensures c.room.ensures

pub returns-in-PacketDelivered : goal.returns-in-PacketDelivered
unfolding place_of own_of need_of every_of does_of stands_in starts_round every_has queue_answer around_of if_b
returns-in-PacketDelivered c = row_told _ _ _ _ _ _ _ _ _ c.in-PacketDelivered.is c.requires.0 c.requires.1 refl c.row-in-PacketDelivered.ensures c.along.ensures c.packet_first.ensures

pub returns-in-AckSent : goal.returns-in-AckSent
unfolding place_of own_of need_of every_of does_of stands_in starts_round every_has queue_answer around_of if_b
returns-in-AckSent c = row_told _ _ _ _ _ _ _ _ _ c.in-AckSent.is c.requires.0 c.requires.1 refl c.row-in-AckSent.ensures c.back.ensures c.room-in-AckSent.ensures

pub returns-in-AckDelivered : goal.returns-in-AckDelivered
unfolding place_of own_of need_of every_of does_of stands_in starts_round every_has queue_answer around_of if_b
returns-in-AckDelivered c = row_told _ _ _ _ _ _ _ _ _ c.in-AckDelivered.is c.requires.0 c.requires.1 refl c.row-in-AckDelivered.ensures c.along-in-AckDelivered.ensures c.ack_first.ensures

pub returns-in-Ok : goal.returns-in-Ok
unfolding place_of own_of need_of every_of does_of stands_in starts_round every_has queue_answer around_of if_b
returns-in-Ok c = row_told _ _ _ _ _ _ _ _ _ c.in-Ok.is c.requires.0 c.requires.1 refl c.row-in-Ok.ensures c.at-in-Ok.ensures c.acks_told.ensures

pub returns-in-SubtreeOkSent : goal.returns-in-SubtreeOkSent
unfolding place_of own_of need_of every_of does_of stands_in starts_round every_has queue_answer around_of if_b
returns-in-SubtreeOkSent c = row_told _ _ _ _ _ _ _ _ _ c.in-SubtreeOkSent.is c.requires.0 c.requires.1 refl c.row-in-SubtreeOkSent.ensures c.at-in-SubtreeOkSent.ensures c.oks_told.ensures

pub returns-in-SubtreeOkDelivered : goal.returns-in-SubtreeOkDelivered
unfolding place_of own_of need_of every_of does_of stands_in starts_round every_has queue_answer around_of if_b
returns-in-SubtreeOkDelivered c = row_told _ _ _ _ _ _ _ _ _ c.in-SubtreeOkDelivered.is c.requires.0 c.requires.1 refl c.row-in-SubtreeOkDelivered.ensures c.at-in-SubtreeOkDelivered.ensures refl

pub returns-in-ClusterOk : goal.returns-in-ClusterOk
unfolding place_of own_of need_of every_of does_of stands_in starts_round every_has queue_answer around_of if_b
returns-in-ClusterOk c = row_told _ _ _ _ _ _ _ _ _ c.in-ClusterOk.is c.requires.0 c.requires.1 refl c.row-in-ClusterOk.ensures c.at-in-ClusterOk.ensures c.oks_told-in-ClusterOk.ensures

pub returns-in-DownSent : goal.returns-in-DownSent
unfolding place_of own_of need_of every_of does_of stands_in starts_round every_has queue_answer around_of if_b
returns-in-DownSent c = row_told _ _ _ _ _ _ _ _ _ c.in-DownSent.is c.requires.0 c.requires.1 refl c.row-in-DownSent.ensures c.parent_knows.ensures refl

pub returns-in-DownDelivered : goal.returns-in-DownDelivered
unfolding place_of own_of need_of every_of does_of stands_in starts_round every_has queue_answer around_of if_b
returns-in-DownDelivered c = row_told _ _ _ _ _ _ _ _ _ c.in-DownDelivered.is c.requires.0 c.requires.1 refl c.row-in-DownDelivered.ensures c.at-in-DownDelivered.ensures refl

pub returns-in-PreferredSent : goal.returns-in-PreferredSent
unfolding place_of own_of need_of every_of does_of stands_in starts_round every_has queue_answer around_of if_b
returns-in-PreferredSent c = row_told _ _ _ _ _ _ _ _ _ c.in-PreferredSent.is c.requires.0 c.requires.1 refl c.row-in-PreferredSent.ensures c.knows.ensures refl

pub returns-in-PreferredDelivered : goal.returns-in-PreferredDelivered
unfolding place_of own_of need_of every_of does_of stands_in starts_round every_has queue_answer around_of if_b
returns-in-PreferredDelivered c = row_told _ _ _ _ _ _ _ _ _ c.in-PreferredDelivered.is c.requires.0 c.requires.1 refl c.row-in-PreferredDelivered.ensures c.along-in-PreferredDelivered.ensures refl

pub returns-in-UpSent : goal.returns-in-UpSent
unfolding place_of own_of need_of every_of does_of stands_in starts_round every_has queue_answer around_of if_b
returns-in-UpSent c = row_told _ _ _ _ _ _ _ _ _ c.in-UpSent.is c.requires.0 c.requires.1 refl c.row-in-UpSent.ensures c.knows-in-UpSent.ensures c.ups_told.ensures

pub returns-in-UpDelivered : goal.returns-in-UpDelivered
unfolding place_of own_of need_of every_of does_of stands_in starts_round every_has queue_answer around_of if_b
returns-in-UpDelivered c = row_told _ _ _ _ _ _ _ _ _ c.in-UpDelivered.is c.requires.0 c.requires.1 refl c.row-in-UpDelivered.ensures c.at-in-UpDelivered.ensures refl

pub returns-in-ClusterGo : goal.returns-in-ClusterGo
unfolding place_of own_of need_of every_of does_of stands_in starts_round every_has queue_answer around_of if_b
returns-in-ClusterGo c = row_told _ _ _ _ _ _ _ _ _ c.in-ClusterGo.is c.requires.0 c.requires.1 refl c.row-in-ClusterGo.ensures c.knows-in-ClusterGo.ensures c.ups_told-in-ClusterGo.ensures

pub returns-in-SubtreeGoSent : goal.returns-in-SubtreeGoSent
unfolding place_of own_of need_of every_of does_of stands_in starts_round every_has queue_answer around_of if_b
returns-in-SubtreeGoSent c = row_told _ _ _ _ _ _ _ _ _ c.in-SubtreeGoSent.is c.requires.0 c.requires.1 refl c.row-in-SubtreeGoSent.ensures c.parent_may_go.ensures refl

pub returns-in-SubtreeGoDelivered : goal.returns-in-SubtreeGoDelivered
unfolding place_of own_of need_of every_of does_of stands_in starts_round every_has queue_answer around_of if_b
returns-in-SubtreeGoDelivered c = row_told _ _ _ _ _ _ _ _ _ c.in-SubtreeGoDelivered.is c.requires.0 c.requires.1 refl c.row-in-SubtreeGoDelivered.ensures c.at-in-SubtreeGoDelivered.ensures refl

pub returns-in-Go : goal.returns-in-Go
unfolding place_of own_of need_of every_of does_of stands_in starts_round every_has queue_answer around_of if_b
returns-in-Go c = row_told _ _ _ _ _ _ _ _ _ c.in-Go.is c.requires.0 c.requires.1 refl c.row-in-Go.ensures c.may_go.ensures refl

pub returns-in-Input : goal.returns-in-Input
unfolding place_of own_of need_of every_of does_of stands_in starts_round every_has queue_answer around_of if_b
returns-in-Input c = row_told _ _ _ _ _ _ _ _ _ c.in-Input.is c.requires.0 c.requires.1 refl c.row-in-Input.ensures c.at-in-Input.ensures refl
