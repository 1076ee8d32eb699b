-- Files that are read one after another while a reply is checked.
use Rattle.std.proofs.Common.{◌≡◌, ℕ, List, [], ◌∷◌, ◌++◌, length, take, refl, sym, subst, inl, inr, true, false}
use Rattle.std.specs.Prelude.{IsTrue, ◌↔◌}
use Rattle.std.proofs.lemmas.Bool.{false≢true}
use Rattle.kn_outside.specs.Seen.{FilesSeen}
use Rattle.kn_outside.specs.Asked.{HasAsked, HasFailed}
use Rattle.kn_files.specs.Pieces.{pieces_of}
use Rattle.kn_proof.specs.declared.fault.ProofFault.{ProofFault}
use Rattle.kn_proof.specs.declared.fault.ProofFault.TheVariants as P
use Rattle.kn_proof.specs.declared.reply.ReadReply.{ReadReply}
use Rattle.kn_proof.specs.Reading.{HasHead, IsFirstFault, IsHeadOf, IsReplyText, IsUnread as IsUnreadText}
use Rattle.kn_proof.proofs.OneReplyOrFault.{one_reply}
use Rattle.kn_verify.specs.Verdicts.{IsReplyTo}
use Rattle.kn_session.specs.Sessions.{Session}
use Rattle.kn_inputs.specs.declared.input_fault.InputFault.{InputFault}
use Rattle.kn_inputs.specs.declared.input_fault.InputFault.TheVariants.{Words, FileFailed, FileTooLarge, Limit, KeyLine}
use Rattle.kn_inputs.specs.declared.input_fault.InputFault.TheVariants.{Memory}
use Rattle.kn_inputs.specs.declared.input_fault.InputFault.TheVariants as S
use Rattle.kn_words.specs.declared.files.Source.{Source}
use Rattle.kn_words.specs.declared.files.Source.TheVariants.{Policy, Script as TheScript, Reply}
use Rattle.kn_endings.specs.declared.check_ending.CheckEnding.{CheckEnding}
use Rattle.kn_endings.specs.declared.check_ending.CheckEnding.TheVariants.{Stopped, NoQuery, Faulty, Rejected, Proved}
use Rattle.kn_words.specs.Names.{CheckNames, in_order}
use Rattle.kn_inputs.specs.InputFaults.{input_fault_of}
use Rattle.kn_words.specs.Sources.{name_of}
use Rattle.kn_inputs.specs.Held.{HasContent, IsFileRead}
use Rattle.kn_load.specs.Loaded.{StopsLoading}
use Rattle.kn_load.specs.declared.fault.LoadFault.{LoadFault}
use Rattle.kn_load.specs.declared.fault.LoadFault.TheVariants as L
use Rattle.kn_history.specs.declared.fault.StoreFault.TheVariants as F
use Rattle.kn_inputs.specs.Stopping.{IsUnread}
use Rattle.kn_commands.specs.Checking.{count_before, count_to, Reached, LacksAt, StopsCheckAt, ReplyShows, ReadShows}
use Rattle.kn_commands.specs.Checking.{IsTried, CheckCause, ending_of_fault}
use Rattle.kn_inputs.proofs.Files.{too_large_there, keeps_content, asked_both, failed_behind}

-- the files behind one more
pub one_more : (names : CheckNames) (source : Source)
    → take (count_before source) (in_order names) ++ name_of names source ∷ [] ≡ take (count_to source) (in_order names)
one_more names Policy = refl
one_more names TheScript = refl
one_more names Reply = refl

-- one more file is read
pub read_more : (f f' f'' : FilesSeen) (names : CheckNames) (source : Source)
    → HasAsked (take (count_before source) (in_order names)) f f' →
    HasAsked (name_of names source ∷ []) f' f'' → HasAsked (take (count_to source) (in_order names)) f f''
read_more f f' f'' names source before asked =
    subst (λ (l : List (List ℕ)). HasAsked l f f'') (one_more names source)
    (asked_both (take (count_before source) (in_order names)) (name_of names source ∷ []) f f' f'' before asked)

-- and so does a policy that isn't loaded
pub load_stops : (f f' : FilesSeen) (names : CheckNames) (bytes : List ℕ) (fault : LoadFault) (stop : InputFault)
    → stop ≡ input_fault_of fault → HasAsked (names.policy ∷ []) f f' →
    HasContent f names.policy bytes → StopsLoading (pieces_of bytes) fault → StopsCheckAt f f' names Policy stop
load_stops f f' names bytes fault stop is asked has stops =
    subst (StopsCheckAt f f' names Policy) (sym is) (by fault stops)
  where
    read : IsFileRead names.policy f f' bytes
    read = record { asked = asked; content = has }

    by : (why : LoadFault) → StopsLoading (pieces_of bytes) why → StopsCheckAt f f' names Policy (input_fault_of why)
    by (L.Faulty n fault) found = (refl, bytes, read, found)
    by (L.Full n (F.LiveFull count)) found =
        (refl, bytes, read, record { refusal = F.LiveFull count; full = found; exact = refl })
    by (L.Full n (F.BytesFull count)) found =
        (refl, bytes, read, record { refusal = F.BytesFull count; full = found; exact = refl })
    by (L.Full n (F.HistoryFull count)) found =
        (refl, bytes, read, record { refusal = F.HistoryFull count; full = found; exact = refl })
    by (L.Full n (F.LogFull count)) found =
        (refl, bytes, read, record { refusal = F.LogFull count; full = found; exact = refl })
    by (L.Full n (F.Unknown id)) found = (tt, inr (asked, tt))
    by (L.Full n F.NoMemory) found = (tt, inr (asked, tt))
    by L.NoMemory found = (tt, inr (asked, tt))

-- a text that shows how the run ends
pub shown_cause : (f f' : FilesSeen) (names : CheckNames) (session : Session) (values : List (List ℕ)) (text : List ℕ)
    (ending : CheckEnding) → IsTried f f' names session values text →
    ReplyShows session values text ending → CheckCause f f' names ending
shown_cause f f' names session values text (Stopped source stop) tried shows =
    subst (λ (s : InputFault). StopsCheckAt f f' names source s) (sym shows.1)
    (subst (λ (at : Source). Reached f names at × LacksAt f f' names at) (sym shows.0)
    ((session, values, tried.query), inr (tried.asked, (session, values, text, tried.query, tried.content, shows.2))))
shown_cause f f' names session values text NoQuery tried shows = absurd shows
shown_cause f f' names session values text (Faulty fault line) tried shows =
    record { session = session; values = values; text = text; tried = tried; shows = shows }
shown_cause f f' names session values text (Rejected reject) tried shows =
    record { session = session; values = values; text = text; tried = tried; shows = shows }
shown_cause f f' names session values text (Proved value name) tried shows =
    record { session = session; values = values; text = text; tried = tried; shows = shows }

-- a text of which this is the reply shows what the reply does
pub shown_text : (session : Session) (values : List (List ℕ)) (text : List ℕ) (reply : ReadReply) (ending : CheckEnding)
    → IsReplyText text reply → ReadShows session values reply ending →
    ReplyShows session values text ending
shown_text session values text reply (Stopped source stop) read shows =
    (shows.0, shows.1, record { reply = reply; read = read; to_query = shows.2 })
shown_text session values text reply NoQuery read shows = absurd shows
shown_text session values text reply (Faulty fault line) read shows = inr (shows.0, shows.1, (reply, read, shows.2))
shown_text session values text reply (Rejected reject) read shows =
    record { reply = reply; read = read; unproved = shows }
shown_text session values text reply (Proved value name) read shows =
    record { reply = reply; read = read; value_told = shows.0; name_told = shows.1; proved = shows.2 }

-- a text that has a fault shows it
pub shown_fault : (session : Session) (values : List (List ℕ)) (text : List ℕ) (fault : ProofFault)
    → IsFirstFault text fault → ReplyShows session values text (ending_of_fault fault)
shown_fault session values text (P.Line n) first = inl (P.Line n, first, refl, refl)
shown_fault session values text (P.Number n) first = inl (P.Number n, first, refl, refl)
shown_fault session values text (P.Count n) first = inl (P.Count n, first, refl, refl)
shown_fault session values text P.NoMemory first = absurd (elim first [ inl header ↦ header | inr later ↦ later.cause ])

-- and so does one that isn't read, where it is that of a reply to the query
pub shown_unread : (session : Session) (values : List (List ℕ)) (text : List ℕ) (fault : ProofFault)
    → IsUnreadText text fault
    → ((reply : ReadReply) → IsReplyText text reply → IsReplyTo (length session.pinned) values reply)
    → ReplyShows session values text (ending_of_fault fault)
shown_unread session values text fault unread to = elim unread [
  | inl first ↦ shown_fault session values text fault first
  | inr lacks ↦
      subst (λ (why : ProofFault). ReplyShows session values text (ending_of_fault why)) (sym lacks.0)
      (refl, refl, record { reply = lacks.1.0; read = lacks.1.1; to_query = to lacks.1.0 lacks.1.1 })
]

-- a reply to another query is found by its head
pub shown_other : (session : Session) (values : List (List ℕ)) (text name : List ℕ) (value version : ℕ)
    → HasHead text value name version
    → ((reply : ReadReply) → IsHeadOf reply value name version
    → (IsTrue false ↔ IsReplyTo (length session.pinned) values reply)) → ReplyShows session values text (Faulty 1 1)
shown_other session values text name value version has decides =
    inr (refl, refl, (has.reply, has.read, λ to. false≢true ((decides has.reply has.head).1 to)))

-- and so is one to the query
pub read_to_query : (session : Session) (values : List (List ℕ)) (text name : List ℕ) (value version : ℕ)
    → HasHead text value name version
    → ((reply : ReadReply) → IsHeadOf reply value name version
    → (IsTrue true ↔ IsReplyTo (length session.pinned) values reply))
    → (reply : ReadReply) → IsReplyText text reply → IsReplyTo (length session.pinned) values reply
read_to_query session values text name value version has decides reply read =
    subst (λ (r : ReadReply). IsReplyTo (length session.pinned) values r) (one_reply text has.reply reply has.read read)
    ((decides has.reply has.head).0 refl)
