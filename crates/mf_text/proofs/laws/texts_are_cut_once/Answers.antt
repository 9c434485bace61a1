use Rattle.mf_text.proofs.CuttingOnce as cuts
use Rattle.mf_text.proofs.laws.texts_are_cut_once.Goals as goal

pub returns : goal.returns
returns c = cuts.texts_are_cut_once
