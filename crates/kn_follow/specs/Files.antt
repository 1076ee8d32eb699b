-- Files of replies to LOG, one after the other, and what becomes of a new replica that they are applied to (keynoted's
-- own). A replica is seen as the updates that it holds.
use Rattle.std.specs.Prelude.{ℕ, ◌≡◌, ◌≢◌, ◌≤◌, List, [], ◌++◌, length, take}
use Rattle.std.specs.List.{AllByRecursion, concat}
use Rattle.kn_history.specs.declared.update.Update.{Update}
use Rattle.kn_follow.specs.declared.fault.FollowFault.{FollowFault}
use Rattle.kn_follow.specs.declared.fault.FollowFault.TheVariants.{Line, Gap, Refused, NoMemory}
use Rattle.kn_follow.specs.declared.reply.TheConstants.{REPLY_BYTES}
use Rattle.kn_follow.specs.Forms.{LogReply, IsLogText, DepartsAt}
use Rattle.kn_follow.specs.Following.{IsApplied, IsFollowFault, Applies}

-- a reply may have so many bytes
abbrev pub IsWithinLimit : List ℕ → Type 0
IsWithinLimit text = length text ≤ REPLY_BYTES

-- the file is texts of replies, one after the other, and these make this history of a new replica
pub record IsLogFile (text : List ℕ) (updates : List Update) : Type 0 where
  pub replies : List (List ℕ)
  pub whole : text ≡ concat replies
  pub short : AllByRecursion IsWithinLimit replies
  pub applied : Applies [] replies updates

-- a reply that a replica with these updates applies stands at the front of these bytes; it makes this history, and the
-- rest is behind it
pub record AppliesFront (held : List Update) (left rest : List ℕ) (new : List Update) : Type 0 where
  pub text : List ℕ
  pub count : ℕ
  pub cut : left ≡ text ++ rest
  pub short : IsWithinLimit text
  pub applied : IsApplied held text count new

-- a whole reply stands at the front of these bytes, and a replica with these updates refuses it so
pub record RefusesFront (held : List Update) (left : List ℕ) (fault : FollowFault) : Type 0 where
  pub text : List ℕ
  pub rest : List ℕ
  pub new : List Update
  pub cut : left ≡ text ++ rest
  pub short : IsWithinLimit text
  pub refused : IsFollowFault held text fault new

-- No whole reply stands at the front of these bytes. As many of the first ones as a reply may have, or all where they
-- are fewer, depart from the form at this byte: what is in front of it begins a text of the form, and with it no more;
-- or they break off there, which is the limit where the bytes keep the form past that.
pub record FrontDepartsAt (left : List ℕ) (at : ℕ) : Type 0 where
  pub some : left ≢ []
  pub none : (text rest : List ℕ) (reply : LogReply) → left ≡ text ++ rest → IsWithinLimit text
      → IsLogText text reply → ⊥
  pub departs : DepartsAt (take REPLY_BYTES left) at

-- why these bytes, which are left where a replica has these updates, don't begin with a reply that it applies; when
-- out of memory nothing is said of them
abbrev pub IsFrontFault : List Update → List ℕ → FollowFault → Type 0
IsFrontFault held left (Line at) = FrontDepartsAt left at
IsFrontFault held left (Gap from have) = RefusesFront held left (Gap from have)
IsFrontFault held left (Refused place) = RefusesFront held left (Refused place)
IsFrontFault held left NoMemory = Unit {0}

-- the first replies of a file make this history of a new replica, and these bytes are left behind them
pub record AppliesFirst (text left : List ℕ) (held : List Update) : Type 0 where
  pub replies : List (List ℕ)
  pub cut : text ≡ concat replies ++ left
  pub short : AllByRecursion IsWithinLimit replies
  pub applied : Applies [] replies held

-- why a file isn't replies that a new replica applies: after those in front it doesn't go on with what is left
pub record IsLogFault (text : List ℕ) (fault : FollowFault) : Type 0 where
  pub held : List Update
  pub left : List ℕ
  pub first : AppliesFirst text left held
  pub why : IsFrontFault held left fault

-- What the reader of a file in code finds: a reply stands at the front of these bytes, and these are behind it.
pub record StartsWith (left : List ℕ) (reply : LogReply) (rest : List ℕ) : Type 0 where
  pub text : List ℕ
  pub cut : left ≡ text ++ rest
  pub short : IsWithinLimit text
  pub form : IsLogText text reply

-- why no reply is read of the front of these bytes
abbrev pub IsFrontReadFault : List ℕ → FollowFault → Type 0
IsFrontReadFault left (Line at) = FrontDepartsAt left at
IsFrontReadFault left (Gap from have) = ⊥
IsFrontReadFault left (Refused place) = ⊥
IsFrontReadFault left NoMemory = Unit {0}
