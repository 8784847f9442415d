use Rattle.std.proofs.Common.{refl}
use Rattle.line_fields.proofs.WordLaws.{words_begin}
use Rattle.line_fields.proofs.words.Words.end.Goals as goal

pub returns-in-Some : goal.returns-in-Some
returns-in-Some c =
    let begin = words_begin c.in-Some.field-0.now in
    rw (← c.self.view_is, c.in-Some.is, begin.parts) refl
