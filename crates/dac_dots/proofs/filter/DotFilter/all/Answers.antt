use Rattle.std.proofs.Common.{◌-◌, ◌^◌, ◌%◌, ◌/◌, ◌∙◌, ap, nat_eq}
use Rattle.std.specs.Int.{bit_at}
use Rattle.std.proofs.lemmas.List.{get_or-replicate}
use Rattle.std.proofs.lemmas.Nat.Bits.{bit_at_ones}
use Rattle.dac_dots.specs.DotFilters.{slot_of}
use Rattle.dac_dots.proofs.FilterLemmas.{word_there, bit_there}
use Rattle.dac_dots.proofs.filter.DotFilter.all.Goals as goal

pub returns : goal.returns
returns c q =
    ap (λ n. nat_eq (bit_at n (slot_of q % 64)) 1) (get_or-replicate 16 (slot_of q / 64) (2 ^ 64 - 1) 0 (word_there q))
    ∙ ap (λ n. nat_eq n 1) (bit_at_ones 64 (slot_of q % 64) (bit_there q))
