-- `run_crc::print_table`: what the turns wrote, one behind the other.
use Rattle.std.proofs.Common.{◌≡◌, ◌++◌, subst, refl, ℕ, suc}
use native.Mathlib.Omega.{arith}
use Rattle.std.specs.Io.KnownBytes.{Appends}
use Rattle.std.proofs.KnownBytes.{Appends-nil, Appends-trans}
use Rattle.run_crc.specs.Text.{printed, printed_first}
use Rattle.run_crc.proofs.print_table.Goals as goal

one_more : (n m : ℕ) → m ≡ suc n → printed_first n ++ printed n ≡ printed_first m
unfolding printed_first
one_more n m e = rw e refl

pub loop-i-init : goal.loop-i-init
unfolding printed_first
loop-i-init g c = Appends-nil _

pub loop-i-preserved : goal.loop-i-preserved
loop-i-preserved g c = subst (Appends _ _) (one_more _ _ (omega arith)) (Appends-trans _ _ _ _ _ c.loop-i.invariant c.in_ok-print_entry.ensures)

pub returns-in_ok-print_entry : goal.returns-in_ok-print_entry
returns-in_ok-print_entry g c = subst (Appends _ _) (one_more _ _ (omega arith)) (Appends-trans _ _ _ _ _ c.loop-i.invariant c.in_ok-print_entry.ensures)
