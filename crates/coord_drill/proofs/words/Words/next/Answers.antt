use Rattle.std.proofs.Common.{◌≡◌, rules, ◌∙◌, lit<}
use Rattle.coord_drill.specs.Grammar.{words_of}
use Rattle.coord_drill.proofs.requests.Spelled.{words_of-first, words_of-one}
use Rattle.coord_drill.proofs.words.Words.next.Goals as goal

pub returns-in-Some : goal.returns-in-Some
returns-in-Some c =
    let at = c.in-Some.ensures.byte (lit< tt) (λ w o h. h) in
    let whole : c.args.self.now ≡ words_of c.in_ok-text.text.now = search rules in
    whole ∙ words_of-first c.in_ok-text.text.now c.in-Some.word.now c.in-Some.rest.now at.0 at.1 at.2

pub returns-in-None : goal.returns-in-None
returns-in-None c =
    let at = c.in-None.ensures.byte (lit< tt) (λ w o h. h) in
    let whole : c.args.self.now ≡ words_of c.in_ok-text.text.now = search rules in
    whole ∙ words_of-one c.in_ok-text.text.now at
