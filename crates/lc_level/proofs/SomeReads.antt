-- A file that may be read may be counted, and read as rules, in some way.
use Rattle.std.proofs.Common.{◌≡◌, ℕ, ◌≤◌, ◌<◌, ◌⊎◌, inl, inr, Bool, true, false, List, [], ◌∷◌, ◌++◌, length, take, drop, Result, Ok}
use Rattle.std.proofs.{Common.{None, Some, Err, refl, ◌∙◌, ap, subst, sym}, Math.Nat.le-pred_of_lt, lemmas.Bool.cases_lt}
use Rattle.std.proofs.lemmas.List.{append-nil, take-append-drop, length-take-le}
use Rattle.std.specs.List.{concat}
use Rattle.lc_census.specs.{TheCutting.cut, Census.{IsCensus, count_of}, declared.line_count.Count.Count}
use Rattle.lc_census.proofs.OneCutting.{cut_is}
use Rattle.lc_io.specs.Reads.{at_end, at_failure, at_neither}
use Rattle.lc_level.specs.{FileReads.{MayCount, MayReadRules}, declared.fault_word.FaultWord.FaultWord}
use Rattle.lc_level.specs.declared.fault_word.FaultWord.TheVariants.{Read, Name, Twice, Many, Long, Endless, Absent}
use Rattle.lc_tree.specs.Trees.{Content, Contents, AreSome, FillRooms, GivesContent, MayHold, Rooms}

-- the bytes as one piece, or as none
abbrev pub one_piece : List ℕ → List (List ℕ)
one_piece [] = []
one_piece (b ∷ bytes) = (b ∷ bytes) ∷ []

-- not the empty list
abbrev HasFirst : List ℕ → Type 0
HasFirst [] = ⊥
HasFirst (b ∷ bytes) = Unit {0}

pub is_some : (bytes : List ℕ) → AreSome (one_piece bytes)
is_some [] = tt
is_some (b ∷ bytes) = (λ empty. subst HasFirst empty tt, tt)

pub joined : (bytes : List ℕ) → concat (one_piece bytes) ≡ bytes
joined [] = refl
joined (b ∷ bytes) = append-nil (b ∷ bytes)

-- there is none before the last
pub filled : (rooms : Rooms) (bytes : List ℕ) → FillRooms rooms (one_piece bytes)
filled rooms [] = tt
filled rooms (b ∷ bytes) = tt

abbrev content : List ℕ → Bool → Content
content bytes fails = record { bytes = bytes; fails = fails }

-- that of these bytes may be counted
held_count : (c : Content) → (r : Result Count FaultWord) × MayCount (GivesContent c) r
held_count c = by_end c.bytes c.fails
  where
    by_end : (bytes : List ℕ) (fails : Bool) → (r : Result Count FaultWord) × MayCount (GivesContent (content bytes fails)) r
    by_end bytes true = (Err Read, (one_piece bytes, (is_some bytes, joined bytes, refl, filled (Some 65536) bytes)))
    by_end bytes false =
        let count = count_of bytes (cut bytes) in
        let census : IsCensus bytes count = (cut bytes, cut_is bytes, refl) in (
          Ok count,
          (
            one_piece bytes,
            (is_some bytes, joined bytes, refl, filled (Some 65536) bytes),
            subst (λ (l : List ℕ). IsCensus l count)
                (sym (joined bytes)) census,
          ),
        )

-- the first bytes of a longer file
first_bytes : (bytes : List ℕ) (fails : Bool) (n : ℕ) → n ≤ length bytes
    → (pieces : List (List ℕ)) × GivesContent (content bytes fails) None pieces at_neither × (length (concat pieces) ≡ n)
first_bytes bytes fails n fits =
    let first = take n bytes in (
      one_piece first,
      (
        is_some first,
        (drop n bytes, ap (λ (l : List ℕ). l ++ drop n bytes) (joined first) ∙ take-append-drop n bytes),
        filled None first,
      ),
      ap length (joined first) ∙ length-take-le n bytes fits,
    )

-- and be read as rules
pub held_rules : (c : Content) → (r : Result (List ℕ) FaultWord) × MayReadRules (GivesContent c) r
held_rules c = by_length c.bytes c.fails (cases_lt (length c.bytes) 1048577)
  where
    by_length : (bytes : List ℕ) (fails : Bool) → (length bytes < 1048577) ⊎ (1048577 ≤ length bytes)
        → (r : Result (List ℕ) FaultWord) × MayReadRules (GivesContent (content bytes fails)) r
    by_length bytes true (inl short) =
        let within = subst (λ (l : List ℕ). length l ≤ 1048576) (sym (joined bytes)) (le-pred_of_lt short) in
        (Err Read, (one_piece bytes, (is_some bytes, joined bytes, refl, filled None bytes), within))
    by_length bytes false (inl short) =
        (Ok bytes, (one_piece bytes, (is_some bytes, joined bytes, refl, filled None bytes), joined bytes, le-pred_of_lt short))
    by_length bytes fails (inr long) = (Err Long, first_bytes bytes fails 1048577 long)

-- what may be counted of a content may be counted of a file that may have it
count_held : (gives : Contents) (c : Content) → MayHold gives c → (r : Result Count FaultWord) → MayCount (GivesContent c) r
    → MayCount gives r
count_held gives c holds (Ok count) m = (m.0, holds (Some 65536) m.0 at_end m.1, m.2)
count_held gives c holds (Err Read) m = (m.0, holds (Some 65536) m.0 at_failure m.1)
count_held gives c holds (Err Endless) m = (m.0, holds (Some 65536) m.0 at_neither m.1, m.2)
count_held gives c holds (Err Name) m = m
count_held gives c holds (Err Twice) m = m
count_held gives c holds (Err Many) m = m
count_held gives c holds (Err Long) m = m
count_held gives c holds (Err Absent) m = m

-- the same of reading it as rules
rules_held : (gives : Contents) (c : Content) → MayHold gives c → (r : Result (List ℕ) FaultWord) → MayReadRules (GivesContent c) r
    → MayReadRules gives r
rules_held gives c holds (Ok bytes) m = (m.0, holds None m.0 at_end m.1, m.2, m.3)
rules_held gives c holds (Err Read) m = (m.0, holds None m.0 at_failure m.1, m.2)
rules_held gives c holds (Err Long) m = (m.0, holds None m.0 at_neither m.1, m.2)
rules_held gives c holds (Err Endless) m = m
rules_held gives c holds (Err Name) m = m
rules_held gives c holds (Err Twice) m = m
rules_held gives c holds (Err Many) m = m
rules_held gives c holds (Err Absent) m = m

-- a file that may have some content may be counted
pub some_count : (gives : Contents) → (c : Content) × MayHold gives c → (r : Result Count FaultWord) × MayCount gives r
some_count gives (c, holds) = ((held_count c).0, count_held gives c holds (held_count c).0 (held_count c).1)

-- and be read as rules
pub some_rules : (gives : Contents) → (c : Content) × MayHold gives c → (r : Result (List ℕ) FaultWord) × MayReadRules gives r
some_rules gives (c, holds) = ((held_rules c).0, rules_held gives c holds (held_rules c).0 (held_rules c).1)
