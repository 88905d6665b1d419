-- The cycle of calls {ramps, soaks}: what is left falls.
use Rattle.profile.proofs.forecasting.+ramps_soaks.Given as goal

abbrev pub decreases-ramps : goal.decreases-ramps
decreases-ramps l = l.left

abbrev pub decreases-soaks : goal.decreases-soaks
decreases-soaks l = l.left
