-- `replies::fresh` meets its contract: arrays of zeros hold nothing.
use Rattle.std.proofs.Common.{ℕ, ℤ, pos, refl}
use Rattle.std.proofs.lemmas.List.{length-replicate}
use Rattle.whole.specs.laws.Places.{all_alike}
use Rattle.replies.specs.laws.Loop.{fresh_coords, valid_idle}
use Rattle.replies.proofs.fresh.Goals as goal

pub invariant_of-result : goal.invariant_of-result
invariant_of-result c = record { coords = fresh_coords 1536 refl }

pub returns : goal.returns
returns c =
    valid_idle _ (length-replicate {A = ℕ} 1024 0) (length-replicate {A = ℕ} 1025 0) (all_alike 0 1025 0) (length-replicate {A = ℕ} 257 0) (all_alike 0 257 0)
    (record { stamps = length-replicate {A = ℕ} 256 0; findings = length-replicate {A = ℕ} 256 0; parts = length-replicate {A = ℤ} 256 (pos 0); table = length-replicate {A = ℕ} 1024 0; turned = length-replicate {A = ℕ} 256 0 })
    (all_alike 0 1024)
