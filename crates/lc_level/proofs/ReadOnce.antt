-- A file of memory is counted, and read as rules, in one way.
use Rattle.std.proofs.Common.{◌≡◌, ℕ, ◌<◌, ◌≤◌, ◌^◌, List, [], ◌∷◌, ◌++◌, length, Result, Ok, Err, refl, sym, ◌∙◌, ap, ◌+◌, ◌*◌, Some}
use Rattle.std.proofs.Common.{subst, arith, length-append}
use Rattle.std.specs.List.{concat}
use Rattle.lc_census.specs.{Census.{IsCensus, count_of}, Cutting.HasOneCutting, declared.line_count.Count.Count}
use Rattle.lc_level.specs.{FileReads.{MayCount, MayReadRules}, declared.fault_word.FaultWord.FaultWord}
use Rattle.lc_level.specs.declared.fault_word.FaultWord.TheVariants.{Read, Name, Twice, Many, Long, Endless, Absent}
use Rattle.lc_tree.specs.Trees.{Content, AreSome, FillRooms, GivesContent}
use Rattle.lc_tree.proofs.OneAnswer.{both}

-- pieces of which each but the last fills a buffer of 65,536 bytes have about as many times that
few_pieces : (pieces : List (List ℕ)) → AreSome pieces → FillRooms (Some 65536) pieces
    → length pieces * 65536 ≤ length (concat pieces) + 65535
few_pieces [] some fill = omega arith
few_pieces ([] ∷ []) some fill = absurd (some.0 refl)
few_pieces ((b ∷ piece) ∷ []) some fill = omega (arith, length-append piece [])
few_pieces (piece ∷ next ∷ pieces) some fill =
    omega (arith, few_pieces (next ∷ pieces) some.1 fill.1, fill.0, length-append piece (concat (next ∷ pieces)))

within : (pieces : List (List ℕ)) (rest bytes : List ℕ) → concat pieces ++ rest ≡ bytes → length (concat pieces) ≤ length bytes
within pieces rest bytes is = omega (arith, length-append (concat pieces) rest, ap length is)

-- 2^32 such pieces have over 2^47 bytes
not_endless : (c : Content) → length c.bytes < 2 ^ 47 → MayCount (GivesContent c) (Err Endless) → ⊥
not_endless c short m = omega (arith, few_pieces m.0 m.1.0 m.1.2, within m.0 m.1.1.0 c.bytes m.1.1.1, m.2)

one_count : (bytes : List ℕ) (a b : Count) → HasOneCutting bytes → IsCensus bytes a → IsCensus bytes b → a ≡ b
one_count bytes a b one p q = p.2 ∙ (ap (count_of bytes) (one.2 p.0 p.1 ∙ sym (one.2 q.0 q.1)) ∙ sym q.2)

census_of : (c : Content) (pieces : List (List ℕ)) (count : Count) → concat pieces ≡ c.bytes → IsCensus (concat pieces) count
    → IsCensus c.bytes count
census_of c pieces count is census = subst (λ (l : List ℕ). IsCensus l count) is census

-- contents of under 2^47 bytes are counted in one way
pub counts_once : (c : Content) (a b : Result Count FaultWord) → length c.bytes < 2 ^ 47 → ((bytes : List ℕ) → HasOneCutting bytes)
    → MayCount (GivesContent c) a → MayCount (GivesContent c) b → a ≡ b
counts_once c (Err Name) b short one p q = absurd p
counts_once c (Err Twice) b short one p q = absurd p
counts_once c (Err Many) b short one p q = absurd p
counts_once c (Err Long) b short one p q = absurd p
counts_once c (Err Endless) b short one p q = absurd (not_endless c short p)
counts_once c (Err Absent) b short one p q = absurd p
counts_once c a (Err Name) short one p q = absurd q
counts_once c a (Err Twice) short one p q = absurd q
counts_once c a (Err Many) short one p q = absurd q
counts_once c a (Err Long) short one p q = absurd q
counts_once c a (Err Endless) short one p q = absurd (not_endless c short q)
counts_once c a (Err Absent) short one p q = absurd q
counts_once c (Ok a) (Ok b) short one p q =
    ap Ok (one_count c.bytes a b (one c.bytes) (census_of c p.0 a p.1.1 p.2) (census_of c q.0 b q.1.1 q.2))
counts_once c (Ok a) (Err Read) short one p q = absurd (both c.fails q.1.2 p.1.2)
counts_once c (Err Read) (Ok b) short one p q = absurd (both c.fails p.1.2 q.1.2)
counts_once c (Err Read) (Err Read) short one p q = refl

-- a file of which the first bytes past the limit are given has them
is_long : (c : Content) → MayReadRules (GivesContent c) (Err Long) → 1048577 ≤ length c.bytes
is_long c m = omega (arith, within m.0 m.1.1.0 c.bytes m.1.1.1, m.2)

is_short : (c : Content) (bytes : List ℕ) → MayReadRules (GivesContent c) (Ok bytes) → length c.bytes ≤ 1048576
is_short c bytes m = omega (arith, ap length (sym m.1.1 ∙ m.2), m.3)

short_failure : (c : Content) → MayReadRules (GivesContent c) (Err Read) → length c.bytes ≤ 1048576
short_failure c m = omega (arith, ap length m.1.1, m.2)

-- contents are read as rules in one way
pub reads_rules_once : (c : Content) (a b : Result (List ℕ) FaultWord)
    → MayReadRules (GivesContent c) a → MayReadRules (GivesContent c) b → a ≡ b
reads_rules_once c (Err Name) b p q = absurd p
reads_rules_once c (Err Twice) b p q = absurd p
reads_rules_once c (Err Many) b p q = absurd p
reads_rules_once c (Err Endless) b p q = absurd p
reads_rules_once c (Err Absent) b p q = absurd p
reads_rules_once c a (Err Name) p q = absurd q
reads_rules_once c a (Err Twice) p q = absurd q
reads_rules_once c a (Err Many) p q = absurd q
reads_rules_once c a (Err Endless) p q = absurd q
reads_rules_once c a (Err Absent) p q = absurd q
reads_rules_once c (Ok a) (Ok b) p q = ap Ok (sym p.2 ∙ (p.1.1 ∙ (sym q.1.1 ∙ q.2)))
reads_rules_once c (Ok a) (Err Read) p q = absurd (both c.fails q.1.2 p.1.2)
reads_rules_once c (Ok a) (Err Long) p q = absurd (omega (arith, is_short c a p, is_long c q))
reads_rules_once c (Err Read) (Ok b) p q = absurd (both c.fails p.1.2 q.1.2)
reads_rules_once c (Err Read) (Err Read) p q = refl
reads_rules_once c (Err Read) (Err Long) p q = absurd (omega (arith, short_failure c p, is_long c q))
reads_rules_once c (Err Long) (Ok b) p q = absurd (omega (arith, is_short c b q, is_long c p))
reads_rules_once c (Err Long) (Err Read) p q = absurd (omega (arith, short_failure c q, is_long c p))
reads_rules_once c (Err Long) (Err Long) p q = refl
