-- What one step along the segments of a pattern and of a path found, and what it may cost.
use Rattle.std.specs.Prelude.{ℕ, ◌≡◌, ◌+◌, ◌*◌, List, [], ◌∷◌, ◌++◌, length, Option, Some, None}
use Rattle.lc_glob.specs.{Tokens.TokenModel, Fits.Fits, Patterns.{SegmentModel, plain, double_star}, Leads.Leads, Views.segments_ref_model}
use Rattle.lc_glob.specs.{Path.segments_left, Costs.full_cost, declared.match_path.{PathCursor.PathCursor, PathFrontStep.PathFrontStep}}
use Rattle.lc_glob.specs.declared.match_path.PathEndStep.{PathEndStep}
use Rattle.lc_glob.specs.declared.match_path.PathFrontStep.TheVariants as front
use Rattle.lc_glob.specs.declared.match_path.PathEndStep.TheVariants as end

-- the segments of a cursor lead to the end of the path
abbrev pub LeadsAt : PathCursor → Type 0
LeadsAt cursor = Leads (segments_ref_model cursor.segments) (segments_left cursor.left.rest)

-- the greatest number of byte tests from a cursor on
abbrev pub cost_at : PathCursor → ℕ
cost_at cursor = full_cost (segments_ref_model cursor.segments) (segments_left cursor.left.rest)

-- what a step from the end found: a double star, of which nothing is stated; or the last segment fits the path's last, and what is before
-- them is left; or the segments lead to the end, or don't
abbrev pub PathEndStepIs : PathEndStep → List SegmentModel → List (List ℕ) → Type 0
PathEndStepIs end.DoubleStar segments path = Unit {0}
PathEndStepIs (end.Taken before) segments path = (us : List TokenModel) × (n : List ℕ)
    × (segments ≡ segments_ref_model before.segments ++ plain us ∷ []) × (path ≡ segments_left before.left.rest ++ n ∷ []) × Fits us n
PathEndStepIs end.Arrived segments path = Leads segments path
PathEndStepIs end.Stuck segments path = Leads segments path → ⊥

-- the greatest number of byte tests after a step from the end, where `all` is the greatest number before the step
abbrev pub cost_after : PathEndStep → ℕ → ℕ
cost_after end.DoubleStar all = all
cost_after (end.Taken before) all = cost_at before
cost_after end.Arrived all = 0
cost_after end.Stuck all = 0

-- what a step from the front found: a double star is first; or the first segment fits the path's first, and what is after them is left; or
-- the segments lead to the end, or don't
abbrev pub PathFrontStepIs : PathFrontStep → List SegmentModel → List (List ℕ) → Type 0
PathFrontStepIs (front.DoubleStar rest) segments path = segments ≡ double_star ∷ segments_ref_model rest
PathFrontStepIs (front.Taken after) segments path = (us : List TokenModel) × (n : List ℕ)
    × (segments ≡ plain us ∷ segments_ref_model after.segments) × (path ≡ n ∷ segments_left after.left.rest) × Fits us n
PathFrontStepIs front.Arrived segments path = Leads segments path
PathFrontStepIs front.Stuck segments path = Leads segments path → ⊥

-- the next cursor has the same segments of the pattern, and one segment of the path less; None if the path has no segment left
abbrev pub PathRetryIs : PathCursor → Option PathCursor → Type 0
PathRetryIs here None = segments_left here.left.rest ≡ []
PathRetryIs here (Some next) = (n : List ℕ) × (segments_left here.left.rest ≡ n ∷ segments_left next.left.rest)
    × (next.segments ≡ here.segments)

-- the greatest number of byte tests of a pattern's first segment with a path's first segment
abbrev pub front_cost : List SegmentModel → List (List ℕ) → ℕ
front_cost [] path = 0
front_cost (double_star ∷ r) path = 0
front_cost (plain us ∷ r) [] = 0
front_cost (plain us ∷ r) (n ∷ ns) = (length us + 1) * (length n + 1)

-- the greatest number of byte tests of a cursor's first segment with the path's first segment
abbrev pub front_cost_at : PathCursor → ℕ
front_cost_at cursor = front_cost (segments_ref_model cursor.segments) (segments_left cursor.left.rest)
