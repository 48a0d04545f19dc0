-- Words in plain spelling do what they ask for.
use Rattle.command_words.specs.declared.network.NetworkCommand.{NetworkCommand}
use Rattle.exchange_messages.specs.Floors.{IsMomentOf}
use Rattle.adx_commands.proofs.NetworkCommands.{causes_in, kept_in, plain_runs, plain_taken, runs_unstarted}
use Rattle.adx_commands.proofs.Ends.{bid_refused, post_refused}
use Rattle.adx_commands.proofs.ServedRuns.{serve_refused}
use Rattle.adx_commands.proofs.network_command.adx_serve.Goals as goal

pub returns-in-Ok-clause-serve : goal.returns-in-Ok-clause-serve
returns-in-Ok-clause-serve g c = λ workers asked.
    plain_runs (c.in-Ok.read, c.in-Ok.ensures.other, c.run.ensures.runs) (NetworkCommand.Serve asked.0 asked.1 asked.2 workers) asked.3

pub returns-in-Ok-clause-post : goal.returns-in-Ok-clause-post
returns-in-Ok-clause-post g c = λ post. plain_runs (c.in-Ok.read, c.in-Ok.ensures.other, c.run.ensures.runs) (NetworkCommand.Post post.0 post.1) post.2

pub returns-in-Ok-clause-bid : goal.returns-in-Ok-clause-bid
returns-in-Ok-clause-bid g c = λ bid. plain_runs (c.in-Ok.read, c.in-Ok.ensures.other, c.run.ensures.runs) (NetworkCommand.Bid bid.0 bid.1) bid.2

pub returns-in-Ok-clause-usage : goal.returns-in-Ok-clause-usage
returns-in-Ok-clause-usage g c = λ is command. plain_taken (c.in-Ok.read, c.in-Ok.ensures.other, c.run.ensures.runs) is command

pub returns-in-Ok-clause-serve_refused : goal.returns-in-Ok-clause-serve_refused
returns-in-Ok-clause-serve_refused g c = λ workers asked.
    serve_refused g.A.Acceptor g.A.In.Source g.A.Out.Sink g.D.Disk g.L.Link (IsMomentOf (g.C.Clock.moment c.args.clock.now))
    (record { acceptor = c.args.acceptor; disk = c.args.disk; links = c.args.links; post = c.args.post }) c.run.result c.args.document.now workers
    (plain_runs (c.in-Ok.read, c.in-Ok.ensures.other, c.run.ensures.runs) (NetworkCommand.Serve asked.0 asked.1 asked.2 workers) asked.3)

pub returns-in-Ok-clause-post_refused : goal.returns-in-Ok-clause-post_refused
returns-in-Ok-clause-post_refused g c = λ post.
    post_refused g.A.Acceptor g.D.Disk (record { acceptor = c.args.acceptor; disk = c.args.disk; links = c.args.links; post = c.args.post }) c.run.result g.L.Link c.args.document.now
    (plain_runs (c.in-Ok.read, c.in-Ok.ensures.other, c.run.ensures.runs) (NetworkCommand.Post post.0 post.1) post.2)

pub returns-in-Ok-clause-bid_refused : goal.returns-in-Ok-clause-bid_refused
returns-in-Ok-clause-bid_refused g c = λ bid.
    bid_refused g.A.Acceptor g.D.Disk (record { acceptor = c.args.acceptor; disk = c.args.disk; links = c.args.links; post = c.args.post }) c.run.result g.A.In.Source g.A.Out.Sink c.args.document.now
    (plain_runs (c.in-Ok.read, c.in-Ok.ensures.other, c.run.ensures.runs) (NetworkCommand.Bid bid.0 bid.1) bid.2)

pub returns-in-Ok-clause-acceptor_fault : goal.returns-in-Ok-clause-acceptor_fault
returns-in-Ok-clause-acceptor_fault g c = (causes_in g.A.Acceptor g.D.Disk _ c.run.result c.in-Ok.read c.run.ensures.causes).acceptor_fault

pub returns-in-Ok-clause-acceptor_passed : goal.returns-in-Ok-clause-acceptor_passed
returns-in-Ok-clause-acceptor_passed g c = (causes_in g.A.Acceptor g.D.Disk _ c.run.result c.in-Ok.read c.run.ensures.causes).acceptor_passed

pub returns-in-Ok-clause-disk_fault : goal.returns-in-Ok-clause-disk_fault
returns-in-Ok-clause-disk_fault g c = (causes_in g.A.Acceptor g.D.Disk _ c.run.result c.in-Ok.read c.run.ensures.causes).disk_fault

pub returns-in-Ok-clause-disk_passed : goal.returns-in-Ok-clause-disk_passed
returns-in-Ok-clause-disk_passed g c = (causes_in g.A.Acceptor g.D.Disk _ c.run.result c.in-Ok.read c.run.ensures.causes).disk_passed

pub returns-in-Ok-clause-given_back : goal.returns-in-Ok-clause-given_back
returns-in-Ok-clause-given_back g c = (causes_in g.A.Acceptor g.D.Disk _ c.run.result c.in-Ok.read c.run.ensures.causes).all_back

pub returns-in-Ok-clause-post_back : goal.returns-in-Ok-clause-post_back
returns-in-Ok-clause-post_back g c = (causes_in g.A.Acceptor g.D.Disk _ c.run.result c.in-Ok.read c.run.ensures.causes).post_back

pub returns-in-Ok-clause-kept : goal.returns-in-Ok-clause-kept
returns-in-Ok-clause-kept g c = λ plain. kept_in g.A.Acceptor g.D.Disk _ c.run.result _ c.in-Ok.read c.in-Ok.ensures.other plain c.run.ensures.causes

pub returns-in-Err-clause-other : goal.returns-in-Err-clause-other
returns-in-Err-clause-other g c =
    runs_unstarted g.A.Acceptor g.A.In.Source g.A.Out.Sink g.D.Disk g.L.Link (IsMomentOf (g.C.Clock.moment c.args.clock.now)) c.args.document.now
    (record { acceptor = c.args.acceptor; disk = c.args.disk; links = c.args.links; post = c.args.post }) c.give_back.result
    (record { status_is = c.give_back.ensures.status; untouched = c.give_back.ensures.untouched }) c.args.words.now
