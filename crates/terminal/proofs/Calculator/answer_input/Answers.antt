use Rattle.terminal.proofs.Pieces.{ended, not_ended}
use Rattle.terminal.proofs.Calculator.answer_input.Goals as goal

pub returns-in-InputEnded : goal.returns-in-InputEnded
returns-in-InputEnded g c =
    let e = c.finish.ensures in
    rw c.in-InputEnded.is (ended c.requires.empty c.requires.zeroed c.in-InputEnded.ensures.fetched _ e.line_kept e.journal_after)

pub returns-in_default : goal.returns-in_default
returns-in_default g c = not_ended c.requires.empty c.requires.zeroed _ c.in_default.not-InputEnded c.take_pieces-stop.ensures.fetched
