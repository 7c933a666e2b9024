-- What the code finds when it looks for the row of document 01's table that refuses a frame.
use Rattle.std.specs.Prelude.{◌≡◌, Result, MatchResult, ⊤}
use Rattle.std.proofs.Math.Option.{none, some}
use Rattle.frame.specs.Frame.{Frame}
use Rattle.building.specs.declared.Arrays.{Arrays}
use Rattle.service.specs.declared.Refusal.{Refusal}
use Rattle.service.specs.Service.{refusal}
use Rattle.desk.specs.declared.Desk.{Desk}
use Rattle.desk.specs.held.Holds.{service, Valid}

-- a refusal found in code is the definitions', whatever arrays that agree with those looked at
pub record Refused (d : Desk) (same : Arrays → Type 0) (f : Frame) (r : Refusal) : Type 0 where
  pub is : (a : Arrays) → same a → Valid a d → refusal (service a d) f ≡ some r

-- a frame that no row refuses, and what that is worth
pub record Accepted (d : Desk) (same : Arrays → Type 0) (f : Frame) (fits : Type 0) : Type 0 where
  pub is : (a : Arrays) → same a → Valid a d → refusal (service a d) f ≡ none
  pub fit : fits

-- what the code finds: accepted, or refused so
abbrev pub Row : Desk → (Arrays → Type 0) → Frame → Type 0 → Result ⊤ Refusal → Type 0
Row d same f fits r = MatchResult r (λ _. Accepted d same f fits) (Refused d same f)
