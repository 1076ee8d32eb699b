-- What is seen of sinks, links and files in memory.
use Rattle.std.specs.Prelude.{ℕ, Bool, List, [], ◌∷◌, ◌++◌, ◌≡◌, ◌==◌, nat_lt, nat_le, min, max, length, take, drop}
use Rattle.std.specs.Prelude.{slice_index, Option, Some, None, Result, Ok, Err, if◌then◌else◌}
use Rattle.std.specs.List.{list_any}
use Rattle.std.specs.Str.{bytes_eq}
use Rattle.kn_base.specs.declared.limits.TheConstants.{FILE_BYTES}
use Rattle.kn_outside.specs.declared.file_entry.FileEntry.{FileEntry}
use Rattle.kn_outside.specs.declared.files.FileFault.{FileFault}
use Rattle.kn_outside.specs.Faults.{count_up}
use Rattle.kn_outside.specs.declared.files.FileFault.TheVariants.{Failed, TooLarge, NoMemory}

-- a sink in memory: what was written, how many writes there were and how many failed, and which ones fail
pub record SinkInMemory : Type 0 where
  pub written : List ℕ
  pub calls : ℕ
  pub faults : ℕ
  pub failing : List ℕ

-- a link in memory: its input as far as it was read and as far as it is left, what was written, how many
-- reads and calls there were and how many calls failed, what each read gives at most, and which calls fail
pub record LinkInMemory : Type 0 where
  pub taken : List ℕ
  pub left : List ℕ
  pub written : List ℕ
  pub reads : ℕ
  pub calls : ℕ
  pub faults : ℕ
  pub cuts : List ℕ
  pub failing : List ℕ

-- files in memory: the files, the names that were asked for, how many reads there were and how many failed,
-- and which ones fail
pub record FilesInMemory : Type 0 where
  pub entries : List FileEntry
  pub asked : List (List ℕ)
  pub calls : ℕ
  pub faults : ℕ
  pub failing : List ℕ

-- whether the call of this number fails
abbrev pub is_failing : List ℕ → ℕ → Bool
is_failing failing number = list_any (λ other. other == number) failing

-- the sink once this piece was written to it
abbrev pub sink_after_write : List ℕ → SinkInMemory → SinkInMemory
sink_after_write piece sink = record sink { written = sink.written ++ piece; calls = count_up sink.calls }

-- the sink once a write to it failed
abbrev pub sink_after_failed_write : SinkInMemory → SinkInMemory
sink_after_failed_write sink = record sink { calls = count_up sink.calls; faults = count_up sink.faults }

-- a link with this input, of which nothing was read and to which nothing was written, whose reads are cut so and
-- of which these calls fail
abbrev pub new_link : List ℕ → List ℕ → List ℕ → LinkInMemory
new_link input cuts failing = record {
  taken = [];
  left = input;
  written = [];
  reads = 0;
  calls = 0;
  faults = 0;
  cuts = cuts;
  failing = failing;
}

-- the link once this piece was written to it
abbrev pub link_after_write : List ℕ → LinkInMemory → LinkInMemory
link_after_write piece link = record link { written = link.written ++ piece; calls = count_up link.calls }

-- the link once a write to it failed
abbrev pub link_after_failed_write : LinkInMemory → LinkInMemory
link_after_failed_write link = record link { calls = count_up link.calls; faults = count_up link.faults }

-- the link once so many bytes of its input were read
abbrev pub link_after_read : ℕ → LinkInMemory → LinkInMemory
link_after_read n link = record link {
  taken = link.taken ++ take n link.left;
  left = drop n link.left;
  reads = count_up link.reads;
  calls = count_up link.calls;
}

-- the link once a read of it failed
abbrev pub link_after_failed_read : LinkInMemory → LinkInMemory
link_after_failed_read link =
    record link { reads = count_up link.reads; calls = count_up link.calls; faults = count_up link.faults }

-- how many of so many bytes the read at this place gives: at most its cut, where a cut of 0 counts as 1,
-- and all of them once the cuts have ended
abbrev pub cut_of : List ℕ → ℕ → ℕ → ℕ
cut_of cuts place bytes = if nat_lt place (length cuts) then min bytes (max 1 (slice_index cuts place)) else bytes

-- the content of the first file of this name
abbrev pub content_of : List FileEntry → List ℕ → Option (List ℕ)
content_of [] name = None
content_of (entry ∷ entries) name = if bytes_eq entry.name name then Some entry.content else content_of entries name

-- the answer that a file of this content is due
abbrev pub answer_of : Option (List ℕ) → Result (List ℕ) FileFault
answer_of None = Err Failed
answer_of (Some content) = if nat_le (length content) FILE_BYTES then Ok content else Err TooLarge

-- the answer that the next read of this name is due
abbrev pub next_answer : FilesInMemory → List ℕ → Result (List ℕ) FileFault
next_answer files name =
    if is_failing files.failing (count_up files.calls) then Err Failed else answer_of (content_of files.entries name)

-- an answer is the one that is due, or memory ran out
abbrev pub IsAnswer : Result (List ℕ) FileFault → Result (List ℕ) FileFault → Type 0
IsAnswer due (Ok content) = due ≡ Ok content
IsAnswer due (Err Failed) = due ≡ Err Failed
IsAnswer due (Err TooLarge) = due ≡ Err TooLarge
IsAnswer due (Err NoMemory) = Unit {0}

-- the files once this name was asked for
abbrev pub asked_for : List ℕ → FilesInMemory → FilesInMemory
asked_for name files = record files { asked = files.asked ++ name ∷ []; calls = count_up files.calls }

-- the files after a read of this name gave this answer
abbrev pub files_after : Result (List ℕ) FileFault → List ℕ → FilesInMemory → FilesInMemory
files_after (Ok content) name files = asked_for name files
files_after (Err Failed) name files = record (asked_for name files) { faults = count_up files.faults }
files_after (Err TooLarge) name files = asked_for name files
files_after (Err NoMemory) name files = files
