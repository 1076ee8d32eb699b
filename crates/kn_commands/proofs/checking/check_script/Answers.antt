use Rattle.std.proofs.Common.{◌≡◌, ◌∙◌, ◌∷◌, [], List as Of, ℕ, take, subst}
use Rattle.kn_outside.specs.Asked.{HasAsked}
use Rattle.kn_files.specs.Pieces.{pieces_of}
use Rattle.kn_session.specs.Sessions.{Session}
use Rattle.kn_history.specs.declared.update.Update.{Update}
use Rattle.kn_history.specs.History.{loaded_history}
use Rattle.kn_play.specs.LastQueries.{Means, IsFoundQuery}
use Rattle.kn_words.specs.Names.{in_order}
use Rattle.kn_words.specs.declared.files.Source.TheVariants.{Script as TheScript}
use Rattle.kn_inputs.specs.Held.{HasContent}
use Rattle.kn_commands.specs.Checking.{HasQuery}
use Rattle.kn_load.proofs.Alone.{looks_alone}
use Rattle.kn_inputs.proofs.Files.{content_there, keeps_content}
use Rattle.kn_commands.proofs.CheckedFiles.{read_more}
use Rattle.kn_commands.proofs.checking.check_script.Goals as goal

pub returns-in-Some : goal.returns-in-Some
returns-in-Some g c = λ f bytes has loaded before.
    let mid = g.F.Files.seen c.args.files.now in
    let names = c.args.names.now in
    let asked : HasAsked (names.script ∷ []) mid (g.F.Files.seen c.read_file.new.files) =
    rw c.name.ensures at c.in-Ok.ensures.asked in
    let content : HasContent mid names.script c.in-Ok.script = rw c.name.ensures at c.in-Ok.ensures.content in
    let seen : c.into_book-book.result ≡ loaded_history (pieces_of bytes) =
    c.into_book-book.ensures.book
    ∙ looks_alone c.args.root c.into_book-book.new.pass loaded.root.number loaded.root.unsplit
    c.into_book-book.ensures.sound c.into_book-book.ensures.looked ∙ loaded.seen in
    let first : IsFoundQuery c.into_book-book.result c.as_slice.result.now c.in-Some.meant =
    rw c.in-Some.is at c.in-Ok-find_query.ensures.some in
    let second : IsFoundQuery c.into_book-book.result c.in-Ok.script c.in-Some.meant = rw c.as_slice.ensures at first in
    let found : IsFoundQuery (loaded_history (pieces_of bytes)) c.in-Ok.script c.in-Some.meant =
    subst (λ (h : Of Update). IsFoundQuery h c.in-Ok.script c.in-Some.meant) seen second in
    let query : HasQuery f names found.0 c.in-Some.meant.values = record {
      bytes = bytes;
      policy = record { content = has; loadable = loaded.loadable };
      script = c.in-Ok.script;
      content = content_there f mid names.script c.in-Ok.script (keeps_content (take 1 (in_order names)) f mid before)
          content;
      query = found.2;
    } in
    c.check_reply.ensures f found.0 found.1 query (read_more f mid _ names TheScript before asked)

pub returns : goal.returns
returns g c = λ f bytes has loaded before.
    let mid = g.F.Files.seen c.args.files.now in
    let names = c.args.names.now in
    let asked : HasAsked (names.script ∷ []) mid (g.F.Files.seen c.read_file.new.files) =
    rw c.name.ensures at c.in-Ok.ensures.asked in
    let content : HasContent mid names.script c.in-Ok.script = rw c.name.ensures at c.in-Ok.ensures.content in
    let seen : c.into_book-book.result ≡ loaded_history (pieces_of bytes) =
    c.into_book-book.ensures.book
    ∙ looks_alone c.args.root c.into_book-book.new.pass loaded.root.number loaded.root.unsplit
    c.into_book-book.ensures.sound c.into_book-book.ensures.looked ∙ loaded.seen in
    let first : (session : Session) (values : Of (Of ℕ))
    → ¬ Means c.into_book-book.result c.as_slice.result.now session values =
    rw c.in-None.is at c.in-Ok-find_query.ensures.none in
    let second : (session : Session) (values : Of (Of ℕ))
    → ¬ Means c.into_book-book.result c.in-Ok.script session values = rw c.as_slice.ensures at first in (
      read_more f mid _ names TheScript before asked,
      record {
        bytes = bytes;
        policy = record { content = has; loadable = loaded.loadable };
        script = c.in-Ok.script;
        content = content_there f mid names.script c.in-Ok.script (keeps_content (take 1 (in_order names)) f mid before)
            content;
        none = subst (λ (h : Of Update). (session : Session) (values : Of (Of ℕ))
            → ¬ Means h c.in-Ok.script session values) seen second;
      },
    )
