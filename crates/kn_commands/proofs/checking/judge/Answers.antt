use Rattle.std.proofs.Common.{sym, subst}
use Rattle.kn_session.specs.Views.{session_of_view}
use Rattle.kn_endings.specs.declared.check_ending.CheckEnding.{CheckEnding}
use Rattle.kn_commands.specs.Checking.{ReplyShows}
use Rattle.kn_commands.proofs.CheckedFiles.{read_to_query, shown_fault, shown_other, shown_text, shown_unread}
use Rattle.kn_commands.proofs.checking.judge.Goals as goal

pub returns-in-Err : goal.returns-in-Err
returns-in-Err c =
    let session = session_of_view c.args.view.now in
    let values = c.args.values.now in
    let text = c.args.text.now in
    subst (λ (e : CheckEnding). ReplyShows session values text e) (sym c.faulty.ensures)
    (shown_fault session values text c.in-Err.fault c.in-Err.ensures.err)

pub returns-then-not-is_reply_to : goal.returns-then-not-is_reply_to
returns-then-not-is_reply_to c =
    shown_other (session_of_view c.args.view.now) c.args.values.now c.args.text.now c.in-Ok.head.name.now
    c.in-Ok.head.value c.in-Ok.head.version c.in-Ok.ensures.ok c.if-not-is_reply_to.ensures

pub returns-in-Ok-read_reply : goal.returns-in-Ok-read_reply
returns-in-Ok-read_reply c =
    shown_text (session_of_view c.args.view.now) c.args.values.now c.args.text.now c.in-Ok-read_reply.reply
    c.weigh.result c.in-Ok-read_reply.ensures.ok c.weigh.ensures

pub returns-in-Err-read_reply : goal.returns-in-Err-read_reply
returns-in-Err-read_reply c =
    let session = session_of_view c.args.view.now in
    let values = c.args.values.now in
    let text = c.args.text.now in
    let to = read_to_query session values text c.in-Ok.head.name.now c.in-Ok.head.value c.in-Ok.head.version
    c.in-Ok.ensures.ok c.if-not-is_reply_to.ensures in
    subst (λ (e : CheckEnding). ReplyShows session values text e) (sym c.faulty-in-Err-read_reply.ensures)
    (shown_unread session values text c.in-Err-read_reply.fault c.in-Err-read_reply.ensures.err to)
