use Rattle.std.proofs.Common.{take}
use Rattle.kn_words.proofs.Texts.{AreTexts}
use Rattle.kn_words.proofs.service_words.texts_of.Given as goal

abbrev pub invariant-loop-word : goal.invariant-loop-word
invariant-loop-word l = AreTexts l.texts.items (take l.word-index l.words)
