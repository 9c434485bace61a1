use Rattle.message_forms.proofs.Parses.{carries_more, rows_carry_their_own, broken_begins_no_frame}
use Rattle.message_forms.proofs.laws.frames_carry_their_messages.Goals as goal

pub returns-clause-own : goal.returns-clause-own
returns-clause-own c = rows_carry_their_own

pub returns-clause-stays : goal.returns-clause-stays
returns-clause-stays c = carries_more

pub returns-clause-broken : goal.returns-clause-broken
returns-clause-broken c = broken_begins_no_frame
