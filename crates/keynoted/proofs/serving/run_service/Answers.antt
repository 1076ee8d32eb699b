use Rattle.std.proofs.Common.{◌≡◌, List, ℕ, map, refl, sym, ap, ◌∙◌, subst}
use Rattle.std.specs.Prelude.{All}
use Rattle.std.specs.Str.{IsUtf8}
use Rattle.kn_words.specs.Commands.{ServeFor, IsNo}
use Rattle.keynoted.specs.Outcomes.{NoCommand, WordsLackMemory, ServeEnded}
use Rattle.kn_words.proofs.WordSplits.{no_command, no_serve_text}
use Rattle.kn_words.proofs.ClapLaws.{some_value, no_value}
use Rattle.keynoted.proofs.serving.run_service.Goals as goal

pub service_of-requires-clause-texts : goal.service_of-requires-clause-texts
service_of-requires-clause-texts g c =
    let texts = some_value c.in-Ok-Some.field-0 c.in-Ok-Some.texts
    (λ t. (map (λ s. s.now) t.items ≡ c.args.words.now) × All IsUtf8 c.args.words.now)
    c.in-Ok-Some.field-0-is c.in-Ok-Some.ensures.texts in
    let same : map (λ w. w.now) c.as_slice.result.now ≡ c.args.words.now =
    ap (map (λ w. w.now)) c.as_slice.ensures.value ∙ texts.0 in
    subst (λ (l : List (List ℕ)). All IsUtf8 l) (sym same) texts.1

pub returns-in-Ok-None-service_of : goal.returns-in-Ok-None-service_of
returns-in-Ok-None-service_of g c = λ link.
    let texts = some_value c.in-Ok-Some.field-0 c.in-Ok-Some.texts
    (λ t. (map (λ s. s.now) t.items ≡ c.args.words.now) × All IsUtf8 c.args.words.now)
    c.in-Ok-Some.field-0-is c.in-Ok-Some.ensures.texts in
    let same : map (λ w. w.now) c.as_slice.result.now ≡ c.args.words.now =
    ap (map (λ w. w.now)) c.as_slice.ensures.value ∙ texts.0 in
    let none = no_value c.in-Ok-None-service_of.field-0 c.in-Ok-None-service_of.field-0-is
    c.in-Ok-None-service_of.ensures.none in
    let none_given : IsNo ServeFor c.args.words.now = subst (λ (l : List (List ℕ)). IsNo ServeFor l) same none in
    record {
      outcome = NoCommand;
      cause = (
        no_command c.args.words.now c.requires.serve none_given,
        record { files = refl; net = refl; link = refl },
      );
      printed = c.end-in-Ok-None-service_of.ensures;
    }

pub returns-in-Err : goal.returns-in-Err
returns-in-Err g c = λ link. record {
  outcome = WordsLackMemory;
  cause = (
    record { serve = c.requires.serve; texts = c.in-Err.ensures.lacks },
    record { files = refl; net = refl; link = refl },
  );
  printed = c.end-in-Err.ensures;
}

pub returns : goal.returns
returns g c = λ link.
    let texts = some_value c.in-Ok-Some.field-0 c.in-Ok-Some.texts
    (λ t. (map (λ s. s.now) t.items ≡ c.args.words.now) × All IsUtf8 c.args.words.now)
    c.in-Ok-Some.field-0-is c.in-Ok-Some.ensures.texts in
    record {
      outcome = WordsLackMemory;
      cause = (
        record { serve = c.requires.serve; texts = texts.1 },
        record { files = refl; net = refl; link = refl },
      );
      printed = c.end-in-Err-service_of.ensures;
    }

pub returns-in-Ok-None : goal.returns-in-Ok-None
returns-in-Ok-None g c = λ link. record {
  outcome = NoCommand;
  cause = (
    no_command c.args.words.now c.requires.serve
        (no_serve_text c.args.words.now
        (no_value c.in-Ok-None.field-0 c.in-Ok-None.field-0-is c.in-Ok-None.ensures.none)),
    record { files = refl; net = refl; link = refl },
  );
  printed = c.end.ensures;
}

pub returns-in-Ok-Some-service_of : goal.returns-in-Ok-Some-service_of
returns-in-Ok-Some-service_of g c = λ link.
    let texts = some_value c.in-Ok-Some.field-0 c.in-Ok-Some.texts
    (λ t. (map (λ s. s.now) t.items ≡ c.args.words.now) × All IsUtf8 c.args.words.now)
    c.in-Ok-Some.field-0-is c.in-Ok-Some.ensures.texts in
    let same : map (λ w. w.now) c.as_slice.result.now ≡ c.args.words.now =
    ap (map (λ w. w.now)) c.as_slice.ensures.value ∙ texts.0 in
    let asked : ServeFor (map (λ w. w.now) c.as_slice.result.now) c.in-Ok-Some-service_of.service =
    some_value c.in-Ok-Some-service_of.field-0 c.in-Ok-Some-service_of.service
    (λ s. ServeFor (map (λ w. w.now) c.as_slice.result.now) s)
    c.in-Ok-Some-service_of.field-0-is c.in-Ok-Some-service_of.ensures.some in
    record {
      outcome = ServeEnded c.in-Ok-Some-service_of.service c.serve-ending.result;
      cause = (
        subst (λ (l : List (List ℕ)). ServeFor l c.in-Ok-Some-service_of.service) same asked,
        c.serve-ending.ensures,
        refl,
      );
      printed = c.end_serve.ensures;
    }
