-- Lines that are printed in parts.
use Rattle.std.proofs.Common.{◌≡◌, ℕ, List, [], ◌++◌, append_assoc}
use Rattle.std.specs.Prelude.{codes, decimal}
use Rattle.kn_check.specs.declared.reject.Reject.{Reject}
use Rattle.kn_check.specs.Rejects.{reason_number, reason_row, reason_found}
use Rattle.kn_endings.specs.CheckEndings.{text_line, reject_line, proved_line}
use Rattle.kn_endings.specs.FollowEndings.{followed_line, log_line}
use Rattle.kn_endings.specs.VerifyEndings.{verified_line, transcript_line}

pub text_parts : (a b : List ℕ) (fault line : ℕ) → a ≡ decimal fault → b ≡ decimal line →
    codes "error proof text " ++ (a ++ (codes " " ++ (b ++ (codes "\n" ++ [])))) ≡ text_line fault line
unfolding text_line
text_parts a b fault line first second = rw (first, second) (simp append_assoc)

pub reject_parts : (a b p : List ℕ) (reject : Reject) → a ≡ decimal (reason_number reject)
    → b ≡ decimal (reason_row reject) → p ≡ decimal (reason_found reject) →
    codes "error proof reject " ++ (a ++ (codes " " ++ (b ++ (codes " " ++ (p ++ (codes "\n" ++ []))))))
    ≡ reject_line reject
unfolding reject_line
reject_parts a b p reject first second third = rw (first, second, third) (simp append_assoc)

pub proved_parts : (a name : List ℕ) (value : ℕ) → a ≡ decimal value →
    codes "PROVED " ++ (a ++ (codes " " ++ (name ++ (codes "\n" ++ [])))) ≡ proved_line value name
unfolding proved_line
proved_parts a name value first = rw first (simp append_assoc)

pub followed_parts : (a b : List ℕ) (version live : ℕ) → a ≡ decimal version → b ≡ decimal live
    → codes "FOLLOW " ++ (a ++ (codes " " ++ (b ++ (codes "\n" ++ [])))) ≡ followed_line version live
unfolding followed_line
followed_parts a b version live first second = rw (first, second) (simp append_assoc)

pub log_parts : (a b : List ℕ) (fault place : ℕ) → a ≡ decimal fault → b ≡ decimal place
    → codes "error log " ++ (a ++ (codes " " ++ (b ++ (codes "\n" ++ [])))) ≡ log_line fault place
unfolding log_line
log_parts a b fault place first second = rw (first, second) (simp append_assoc)

pub verified_parts : (a b : List ℕ) (answers version : ℕ) → a ≡ decimal answers → b ≡ decimal version
    → codes "VERIFIED " ++ (a ++ (codes " " ++ (b ++ (codes "\n" ++ [])))) ≡ verified_line answers version
unfolding verified_line
verified_parts a b answers version first second = rw (first, second) (simp append_assoc)

pub transcript_parts : (a b : List ℕ) (fault place : ℕ) → a ≡ decimal fault → b ≡ decimal place
    → codes "error transcript " ++ (a ++ (codes " " ++ (b ++ (codes "\n" ++ [])))) ≡ transcript_line fault place
unfolding transcript_line
transcript_parts a b fault place first second = rw (first, second) (simp append_assoc)
