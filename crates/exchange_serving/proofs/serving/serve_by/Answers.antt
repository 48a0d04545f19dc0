-- What a worker holds goes to a thread where the disk and the links do.
use denote.Param.{arg, param}
use denote.RattleType.{RattleType}
use denote.Exit.{Kept, no}
use mir.Syntax.{Ty, named}
use denote.Ref.{NamedLft}
use denote.Param.Send.{IsSend, IsSync, arg_send, param_send, recorded_send, sendable, struct_send, view_send}
use denote.Struct.Declared.{shape}
use Rattle.std.proofs.Common.{sym, subst, ℕ}
use Rattle.std.proofs.Crossing.{crosses}
use Rattle.std.proofs.alloc.Global.TheSendSync as heap
use Rattle.adx_links.specs.Told.{pair_by, told_by}
use Rattle.adx_links.proofs.Answered.{starts}
use Rattle.adx_desk.specs.declared.shared.OpenedWith.{OpenedWith}
use Rattle.deal_floor.proofs.roster.Roster.TheSendSync as roster
use Rattle.fan_out.proofs.lane.Lane.TheSendSync as lane
use Rattle.http_connection.proofs.conn.Conn.TheSendSync as conn
use Rattle.desk_board.proofs.mail.Mail.TheSendSync as mail
use Rattle.meter_board.proofs.board.StepBoard.TheSendSync as step_board
use Rattle.meter_board.proofs.reader.MeterReader.TheSendSync as reader
use Rattle.outbox.proofs.outbox.Outbox.TheSendSync as outbox
use Rattle.shared_desk.proofs.Crossing.{desk_send}
use Rattle.turnstile.proofs.pass.Pass.TheSendSync as pass
use Rattle.turnstile.proofs.turnstile.Turnstile.TheSendSync as turnstile
use Rattle.turnstile.specs.Passes.{IsOf, TurnstileState}
use Rattle.exchange_serving.specs.contracts.serving.serve_by as rows
use Rattle.exchange_serving.specs.contracts.worker.DayWorker as worker
use Rattle.exchange_serving.specs.contracts.names.Day as days
use Rattle.exchange_serving.specs.contracts.names.DayBoardNames.TheImpl as board_names
use Rattle.exchange_serving.specs.contracts.names.DayMailNames.TheImpl as mail_names
use Rattle.desk_board.specs.contracts.board.Board as shown_boards
use Rattle.fan_out.specs.contracts.lane.Lane as lanes
use Rattle.desk_board.specs.contracts.mailroom.Mailroom as rooms
use Rattle.desk_board.specs.contracts.mailroom.Mailroom.TheInside as in_room
use Rattle.desk_board.proofs.mailroom.Turn.TheSendSync as room_turns
use Rattle.desk_board.specs.contracts.shared_board.SharedBoard as boards
use Rattle.desk_board.specs.contracts.shared_board.SharedBoard.TheInside as in_board
use Rattle.std.specs.contracts.sync.Mutex as mutex
use denote.Struct.Field.{row_field}
use denote.Ref.{ShrRef}
use Rattle.exchange_serving.specs.contracts.worker.DayWorker.TheInside as inside
use Rattle.exchange_serving.proofs.Days.{none_served}
use Rattle.exchange_serving.proofs.serving.serve_by.Goals as goal

of_arg : (i : ℕ) (δ : Ty) (k : Kept) (R : RattleType) → IsSend R → IsSend (param i (arg δ k R))
of_arg i δ k R s = param_send i (arg δ k R) (arg_send δ k R s)

pub serve_all-requires-clause-gate : goal.serve_all-requires-clause-gate
serve_all-requires-clause-gate g c κs within = subst (λ (t : TurnstileState OpenedWith). IsOf g.J.DayNames.first t) (sym c.turnstile.ensures) c.requires.of

pub serve_all-requires-send-T : goal.serve_all-requires-send-T
serve_all-requires-send-T g c κs within =
    let disk = rows.D-row g.row.R g.row.A g.row.D g.row.L g.row.C g.row.G g.row.J g.row.A-In g.row.A-Out in
    of_arg 2 _ no _ (desk_send disk g.D.Disk c.type_bounds.send-D)

pub serve_all-requires-send-W : goal.serve_all-requires-send-W
serve_all-requires-send-W g c κs within =
    let disk = rows.D-row g.row.R g.row.A g.row.D g.row.L g.row.C g.row.G g.row.J g.row.A-In g.row.A-Out in
    let short : NamedLft = record { mir = named 12; lft = κs.1.1.1.1.1.1.1.1.1.1.1.1.0 } in
    let long : NamedLft = record { mir = named 13; lft = κs.1.1.1.1.1.1.1.1.1.1.1.1.1.0 } in
    let rt = rows.R-row g.row.R g.row.A g.row.D g.row.L g.row.C g.row.G g.row.J g.row.A-In g.row.A-Out in
    let link = rows.L-row g.row.R g.row.A g.row.D g.row.L g.row.C g.row.G g.row.J g.row.A-In g.row.A-Out in
    let clock = rows.C-row g.row.R g.row.A g.row.D g.row.L g.row.C g.row.G g.row.J g.row.A-In g.row.A-Out in
    let gathers = rows.G-row g.row.R g.row.A g.row.D g.row.L g.row.C g.row.G g.row.J g.row.A-In g.row.A-Out in
    let names = rows.J-row g.row.R g.row.A g.row.D g.row.L g.row.C g.row.G g.row.J g.row.A-In g.row.A-Out in
    let desk = desk_send disk g.D.Disk c.type_bounds.send-D in
    let lane_sent : IsSend (lanes.the_row link) = search (lane.the_send, c.type_bounds.send-L, sendable) depth 12 in
    let day = days.the_row link names in
    let shown = board_names.ghosts link names g.J.DayNames board_names.no_dict in
    let posted = mail_names.ghosts link names g.J.DayNames mail_names.no_dict in
    let waits_sent : IsSend (row_field (ShrRef (named 13) long.lft rt)).row = search (c.type_bounds.sync-R, sendable) depth 12 in
    let board_sent : IsSend (boards.the_row (row_field (ShrRef (named 13) long.lft rt)).row disk day g.D.Disk shown) = view_send _ _ _ _ _ (recorded_send (in_board.the_field (row_field (ShrRef (named 13) long.lft rt)).row disk day g.D.Disk shown).row _ _ (in_board.the_type (row_field (ShrRef (named 13) long.lft rt)).row disk day g.D.Disk shown).to_one
    (struct_send (shape (in_board.the_type (row_field (ShrRef (named 13) long.lft rt)).row disk day g.D.Disk shown)) (struct_send (shape (shown_boards.the_type (row_field (ShrRef (named 13) long.lft rt)).row disk g.D.Disk)) (search (step_board.the_field_send, waits_sent) depth 8, (search (pass.the_send, desk, sendable) depth 12, tt)), (search (c.type_bounds, sendable) depth 12, tt)))) in
    let mail_sent : IsSend (rooms.the_row disk link day g.D.Disk g.L.Link posted) = view_send _ _ _ _ _ (recorded_send (in_room.the_field disk link day g.D.Disk g.L.Link posted).row _ _ (in_room.the_type disk link day g.D.Disk g.L.Link posted).to_one
    (struct_send (shape (in_room.the_type disk link day g.D.Disk g.L.Link posted)) (search (mail.the_send, outbox.the_send, c.type_bounds.send-L, sendable) depth 20, (search (pass.the_send, desk, sendable) depth 12, (search (c.type_bounds, sendable) depth 12, (room_turns.the_field_send, tt)))))) in
    let board_locked : IsSync (mutex.the_row (boards.the_row (row_field (ShrRef (named 13) long.lft rt)).row disk day g.D.Disk shown)) = search (board_sent, crosses) in
    let mail_locked : IsSync (mutex.the_row (rooms.the_row disk link day g.D.Disk g.L.Link posted)) = search (mail_sent, crosses) in
    let w : IsSend (worker.the_row short long rt disk link clock gathers names g.D.Disk g.L.Link g.C.Clock g.G.Gathers g.J.DayNames) = view_send _ _ _ _ _ (recorded_send (inside.the_field short long rt disk link clock gathers names g.D.Disk g.L.Link g.C.Clock g.G.Gathers g.J.DayNames).row _ _ (inside.the_type short long rt disk link clock gathers names g.D.Disk g.L.Link g.C.Clock g.G.Gathers g.J.DayNames).to_one
    (struct_send (shape (inside.the_type short long rt disk link clock gathers names g.D.Disk g.L.Link g.C.Clock g.G.Gathers g.J.DayNames)) (
      heap.the_field_send,
      (
        search (roster.the_sync, sendable) depth 12,
        (
          search (turnstile.the_sync, desk, sendable) depth 12,
          (
            search (c.type_bounds.sync-C, sendable) depth 12,
            (
              search (board_locked, sendable) depth 12,
              (
                search (mail_locked, sendable) depth 12,
                (
                  search (crosses, sendable) depth 12,
                  (
                    search (lane_sent, crosses, sendable) depth 12,
                    (
                      search (conn.the_send, crosses, sendable) depth 12,
                      (reader.the_field_send, (search (c.type_bounds.sync-G, sendable) depth 12, tt)),
                    ),
                  ),
                ),
              ),
            ),
          ),
        ),
      ),
    ))) in
    of_arg 4 _ no _ w

pub returns-in-Err-clause-left : goal.returns-in-Err-clause-left
returns-in-Err-clause-left g c =
    let told = told_by g.A.Acceptor g.A.In.Source g.A.Out.Sink in
    let t = starts g.A.Acceptor.faults g.A.Acceptor.is_over g.A.Acceptor.pairs (pair_by g.A.In.Source g.A.Out.Sink) c.args.acceptor g.J.DayNames.faults c.requires.faults c.requires.none in
    none_served g.L.Link g.J.DayNames.moment g.J.DayNames.roster g.J.DayNames.workers g.J.DayNames.first g.J.DayNames.faults (told c.args.acceptor) c.args.first
    c.requires.first c.requires.is_first c.requires.out c.requires.turns t.0 t.1
