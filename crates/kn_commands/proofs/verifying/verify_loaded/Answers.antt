use Rattle.std.proofs.Common.{◌≡◌, ◌∙◌, List, [], ◌∷◌, ap, subst}
use Rattle.kn_files.specs.Pieces.{pieces_of}
use Rattle.kn_outside.specs.Asked.{HasAsked}
use Rattle.kn_history.specs.declared.update.Update.{Update}
use Rattle.kn_history.specs.History.{loaded_history}
use Rattle.kn_load.proofs.Alone.{looks_alone}
use Rattle.kn_transcript.specs.Accepted.{IsAcceptedTranscript}
use Rattle.kn_words.specs.Names.{VerifyNames}
use Rattle.kn_inputs.specs.Held.{HasContent}
use Rattle.kn_commands.specs.Verifying.{IsRefused}
use Rattle.kn_commands.proofs.Transcripts.{transcript_read}
use Rattle.kn_commands.proofs.verifying.verify_loaded.Goals as goal

pub returns-in-Ok-verify : goal.returns-in-Ok-verify
returns-in-Ok-verify g c = λ f bytes policy loaded before.
    let names = c.args.names.now in
    let mid = g.F.Files.seen c.args.files.now in
    let last = g.F.Files.seen c.read_file.new.files in
    let script = c.in-Ok.script in
    let replies = c.in-Ok-read_file.replies in
    let to_script : c.names.inside.script.now ≡ names.script = ap (λ (n : VerifyNames). n.script) c.names.view_is in
    let to_replies : c.names.inside.replies.now ≡ names.replies = ap (λ (n : VerifyNames). n.replies) c.names.view_is in
    let second : HasAsked (names.script ∷ []) mid last = rw to_script at c.in-Ok.ensures.asked in
    let third : HasAsked (names.replies ∷ []) last (g.F.Files.seen c.read_file-2.new.files) =
    rw to_replies at c.in-Ok-read_file.ensures.asked in
    let content : HasContent mid names.script script = rw to_script at c.in-Ok.ensures.content in
    let texts : HasContent last names.replies replies = rw to_replies at c.in-Ok-read_file.ensures.content in
    let seen : c.into_book-book.result ≡ loaded_history (pieces_of bytes) =
    c.into_book-book.ensures.book
    ∙ looks_alone c.args.root c.into_book-book.new.pass loaded.root.number loaded.root.unsplit
    c.into_book-book.ensures.sound c.into_book-book.ensures.looked
    ∙ loaded.seen in
    let answers = c.in-Ok-verify.verified.answers in
    let version = c.in-Ok-verify.verified.version in
    let over : IsAcceptedTranscript c.into_book-book.result script c.as_slice-2.result.now answers version =
    rw c.as_slice.ensures at c.in-Ok-verify.ensures.accepted in
    let accepted : IsAcceptedTranscript c.into_book-book.result script replies answers version =
    rw c.as_slice-2.ensures at over in
    transcript_read f mid last _ names bytes script replies
    (λ past s r. IsAcceptedTranscript past s r answers version) policy before second third content texts
    (subst (λ (past : List Update). IsAcceptedTranscript past script replies answers version) seen accepted)

pub returns : goal.returns
returns g c = λ f bytes policy loaded before.
    let names = c.args.names.now in
    let mid = g.F.Files.seen c.args.files.now in
    let last = g.F.Files.seen c.read_file.new.files in
    let script = c.in-Ok.script in
    let replies = c.in-Ok-read_file.replies in
    let to_script : c.names.inside.script.now ≡ names.script = ap (λ (n : VerifyNames). n.script) c.names.view_is in
    let to_replies : c.names.inside.replies.now ≡ names.replies = ap (λ (n : VerifyNames). n.replies) c.names.view_is in
    let second : HasAsked (names.script ∷ []) mid last = rw to_script at c.in-Ok.ensures.asked in
    let third : HasAsked (names.replies ∷ []) last (g.F.Files.seen c.read_file-2.new.files) =
    rw to_replies at c.in-Ok-read_file.ensures.asked in
    let content : HasContent mid names.script script = rw to_script at c.in-Ok.ensures.content in
    let texts : HasContent last names.replies replies = rw to_replies at c.in-Ok-read_file.ensures.content in
    let seen : c.into_book-book.result ≡ loaded_history (pieces_of bytes) =
    c.into_book-book.ensures.book
    ∙ looks_alone c.args.root c.into_book-book.new.pass loaded.root.number loaded.root.unsplit
    c.into_book-book.ensures.sound c.into_book-book.ensures.looked
    ∙ loaded.seen in
    let fault = c.in-Err-verify.fault in
    let over : IsRefused fault c.into_book-book.result script c.as_slice-2.result.now =
    rw c.as_slice.ensures at c.in-Err-verify.ensures.faulty in
    let refused : IsRefused fault c.into_book-book.result script replies = rw c.as_slice-2.ensures at over in
    transcript_read f mid last _ names bytes script replies
    (IsRefused fault) policy before second third content texts
    (subst (λ (past : List Update). IsRefused fault past script replies) seen refused)
