use Rattle.std.proofs.Common.{◌+◌, ◌∷◌, ◌∙◌, sym, take, ap, List, ℕ}
use Rattle.std.proofs.lemmas.List.{take_rest}
use Rattle.line_fields.specs.Words.{words_of}
use Rattle.line_fields.proofs.WordLaws.{words_split}
use Rattle.line_fields.proofs.words.first_word.Goals as goal

pub returns-then-len-line-clause-words : goal.returns-then-len-line-clause-words
returns-then-len-line-clause-words c =
    let line = c.args.line.now in
    let n = c.octets_before-len.result in
    words_split line n c.if-len-line.true c.octets_before-len.ensures.before (c.octets_before-len.ensures.found c.if-len-line.true)
    ∙ ap (λ (t : List ℕ). take n line ∷ words_of t) (sym (take_rest line (n + 1)))
