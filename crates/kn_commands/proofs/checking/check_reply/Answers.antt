use Rattle.std.proofs.Common.{◌≡◌, ◌∙◌, ◌∷◌, [], Some, sym, subst, take}
use Rattle.kn_outside.specs.Asked.{HasAsked}
use Rattle.kn_session.specs.Sessions.{Session}
use Rattle.kn_session.specs.Views.{session_of_view}
use Rattle.kn_words.specs.Names.{in_order}
use Rattle.kn_words.specs.declared.files.Source.TheVariants.{Reply}
use Rattle.kn_inputs.specs.Held.{HasContent}
use Rattle.kn_commands.specs.Checking.{IsTried, ReplyShows}
use Rattle.kn_inputs.proofs.Files.{content_there, keeps_content}
use Rattle.kn_commands.proofs.CheckedFiles.{read_more, shown_cause}
use Rattle.kn_commands.proofs.checking.check_reply.Goals as goal

pub returns-in-Ok : goal.returns-in-Ok
returns-in-Ok g c = λ f session opened query before.
    let mid = g.F.Files.seen c.args.files.now in
    let names = c.args.names.now in
    let values = c.args.meant.now.values in
    let asked : HasAsked (names.reply ∷ []) mid (g.F.Files.seen c.read_file.new.files) =
    rw c.name.ensures at c.in-Ok.ensures.asked in
    let has : HasContent mid names.reply c.in-Ok.text = rw c.name.ensures at c.in-Ok.ensures.content in
    let both : Some session ≡ Some (session_of_view c.view.result) = sym opened ∙ c.view.ensures.session in
    let same : session_of_view c.view.result ≡ session = cc in
    let tried : IsTried f (g.F.Files.seen c.read_file.new.files) names session values c.in-Ok.text = record {
      asked = read_more f mid _ names Reply before asked;
      query = query;
      content = content_there f mid names.reply c.in-Ok.text (keeps_content (take 2 (in_order names)) f mid before) has;
    } in
    let told : ReplyShows (session_of_view c.view.result) values c.in-Ok.text c.judge.result =
    rw c.as_slice.ensures at c.judge.ensures in
    shown_cause f _ names session values c.in-Ok.text c.judge.result tried
    (subst (λ (s : Session). ReplyShows s values c.in-Ok.text c.judge.result) same told)
