use Rattle.dac_play.proofs.texts.+put_large_number.Given as goal

abbrev pub decreases-put_large_number : goal.decreases-put_large_number
decreases-put_large_number l = l.number
