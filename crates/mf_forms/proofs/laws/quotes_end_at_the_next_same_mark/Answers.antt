use Rattle.mf_forms.proofs.QuotesRead as read
use Rattle.mf_forms.proofs.laws.quotes_end_at_the_next_same_mark.Goals as goal

pub returns-clause-without_marks : goal.returns-clause-without_marks
returns-clause-without_marks c = read.without_marks

pub returns-clause-ends : goal.returns-clause-ends
returns-clause-ends c = read.ends

pub returns-clause-stays_open : goal.returns-clause-stays_open
returns-clause-stays_open c = read.stays_open
