-- Lines are in a total order, in which only a line itself ties with it.
use Rattle.std.proofs.{Common.{◌≡◌, ℕ, ◌==◌, cond, List, [], ◌∷◌, refl, sym, ◌∙◌, ap, nat_cmp}, lemmas.Cmp.nat_cmp_total}
use Rattle.std.proofs.lemmas.Cmp.{nat_list_cmp_total, on_total, then_total}
use Rattle.std.specs.{Cmp.IsTotalOrder, FinMap.{nat_cmp-IsAntisymmetric, slice_cmp-IsAntisymmetric}}
use Rattle.std.specs.declared.cmp.Ordering.TheVariants.{Equal}
use Rattle.lc_level.specs.{FaultLines.FaultLineModel, FaultWords.fault_word, Level.{Reason, SkippedLineModel, named_git, by_rule}}
use Rattle.lc_level.specs.{Level.{by_attribute, not_included, other_kind}, ReasonWords.reason_word, declared.fault_word.FaultWord.FaultWord}
use Rattle.lc_level.specs.declared.fault_word.FaultWord.TheVariants.{Read, Name, Twice, Many, Long, Endless, Absent}
use Rattle.lc_reports.specs.LineOrder.{attribute_word, fault_cmp, kind_place, reason_cmp, rule_depth, rule_line, rule_place, skipped_cmp}
use Rattle.lc_rules.specs.declared.rule_source.RuleSource.{RuleSource, TheVariants.{ExcludeFrom, InfoExclude, Gitignore, CommandLine}}
use Rattle.lc_tree.specs.{ByteOrder.bytes_cmp, declared.entry.Kind.{Kind, TheVariants.{File, Dir, Other}}}
use Rattle.lc_tree.specs.declared.entry.OtherKind.TheVariants.{Special, Mounted}
use Rattle.lc_walk.proofs.Keys.{first_ties, then_ties}

-- ---- what ties

pub bytes_same : (xs ys : List ℕ) → bytes_cmp xs ys ≡ Equal → xs ≡ ys
bytes_same = slice_cmp-IsAntisymmetric nat_cmp-IsAntisymmetric

abbrev first : List ℕ → ℕ
first [] = 0
first (b ∷ bs) = b

-- ---- faults

-- the word that begins with this letter
abbrev word_at : ℕ → FaultWord
word_at b = cond (b == 114) Read (cond (b == 110) Name (cond (b == 116) Twice (cond (b == 109) Many
    (cond (b == 108) Long (cond (b == 101) Endless Absent)))))

word_back : (w : FaultWord) → word_at (first (fault_word w)) ≡ w
word_back Read = refl
word_back Name = refl
word_back Twice = refl
word_back Many = refl
word_back Long = refl
word_back Endless = refl
word_back Absent = refl

same_word : (v w : FaultWord) → fault_word v ≡ fault_word w → v ≡ w
same_word v w e = sym (word_back v) ∙ ap (λ bs. word_at (first bs)) e ∙ word_back w

same_fault : (a b : FaultLineModel) → a.path ≡ b.path → a.word ≡ b.word → a ≡ b
same_fault a b p w = λ i. record { path = p i; word = w i }

pub fault_cmp_total : IsTotalOrder fault_cmp
unfolding fault_cmp
fault_cmp_total = then_total (on_total (λ (f : FaultLineModel). f.path) nat_list_cmp_total)
    (on_total (λ (f : FaultLineModel). fault_word f.word) nat_list_cmp_total)

pub fault_ties : (a b : FaultLineModel) → fault_cmp a b ≡ Equal → a ≡ b
unfolding fault_cmp
fault_ties a b e = same_fault a b (bytes_same a.path b.path (first_ties _ _ e))
    (same_word a.word b.word (bytes_same _ _ (then_ties (bytes_cmp a.path b.path) _ e)))

-- ---- reasons

abbrev source_at : (place depth : ℕ) → RuleSource
source_at place depth =
    cond (place == 0) CommandLine (cond (place == 1) ExcludeFrom (cond (place == 2) (InfoExclude depth) (Gitignore depth)))

-- the reason whose word begins with this letter
abbrev reason_at : (b depth place line : ℕ) → (word : List ℕ) → Reason
reason_at b depth place line word = cond (b == 103) named_git (cond (b == 114) (by_rule (source_at place depth) line)
    (cond (b == 97) (by_attribute word) (cond (b == 105) not_included (cond (b == 111) (other_kind Special) (other_kind Mounted)))))

abbrev seen : Reason → Reason
seen r = reason_at (first (reason_word r)) (rule_depth r) (rule_place r) (rule_line r) (attribute_word r)

reason_back : (r : Reason) → seen r ≡ r
reason_back named_git = refl
reason_back (by_rule ExcludeFrom line) = refl
reason_back (by_rule (InfoExclude depth) line) = refl
reason_back (by_rule (Gitignore depth) line) = refl
reason_back (by_rule CommandLine line) = refl
reason_back (by_attribute word) = refl
reason_back not_included = refl
reason_back (other_kind Special) = refl
reason_back (other_kind Mounted) = refl

same_reason : (q r : Reason) → reason_word q ≡ reason_word r → rule_depth q ≡ rule_depth r → rule_place q ≡ rule_place r
    → rule_line q ≡ rule_line r → attribute_word q ≡ attribute_word r → q ≡ r
same_reason q r w d p l a =
    sym (reason_back q) ∙ (λ i. reason_at (first (w i)) (d i) (p i) (l i) (a i)) ∙ reason_back r

reason_cmp_total : IsTotalOrder reason_cmp
unfolding reason_cmp
reason_cmp_total = then_total (on_total reason_word nat_list_cmp_total) (then_total (on_total rule_depth nat_cmp_total)
    (then_total (on_total rule_place nat_cmp_total) (then_total (on_total rule_line nat_cmp_total)
    (on_total attribute_word nat_list_cmp_total))))

reason_ties : (q r : Reason) → reason_cmp q r ≡ Equal → q ≡ r
unfolding reason_cmp
reason_ties q r e =
    let after_word = then_ties (bytes_cmp (reason_word q) (reason_word r)) _ e in
    let after_depth = then_ties (nat_cmp (rule_depth q) (rule_depth r)) _ after_word in
    let after_place = then_ties (nat_cmp (rule_place q) (rule_place r)) _ after_depth in
    let after_line = then_ties (nat_cmp (rule_line q) (rule_line r)) _ after_place in
    same_reason q r (bytes_same _ _ (first_ties _ _ e)) (nat_cmp-IsAntisymmetric _ _ (first_ties _ _ after_word))
    (nat_cmp-IsAntisymmetric _ _ (first_ties _ _ after_depth)) (nat_cmp-IsAntisymmetric _ _ (first_ties _ _ after_place))
    (bytes_same _ _ after_line)

-- ---- skipped entries

abbrev kind_at : ℕ → Kind
kind_at n = cond (n == 0) File (cond (n == 1) Dir (cond (n == 2) (Other Special) (Other Mounted)))

kind_back : (k : Kind) → kind_at (kind_place k) ≡ k
kind_back File = refl
kind_back Dir = refl
kind_back (Other Special) = refl
kind_back (Other Mounted) = refl

same_kind : (j k : Kind) → kind_place j ≡ kind_place k → j ≡ k
same_kind j k e = sym (kind_back j) ∙ ap kind_at e ∙ kind_back k

same_skipped : (a b : SkippedLineModel) → a.path ≡ b.path → a.kind ≡ b.kind → a.reason ≡ b.reason → a ≡ b
same_skipped a b p k r = λ i. record { path = p i; kind = k i; reason = r i }

pub skipped_cmp_total : IsTotalOrder skipped_cmp
unfolding skipped_cmp
skipped_cmp_total = then_total (on_total (λ (l : SkippedLineModel). l.path) nat_list_cmp_total)
    (then_total (on_total (λ (l : SkippedLineModel). l.reason) reason_cmp_total)
    (on_total (λ (l : SkippedLineModel). kind_place l.kind) nat_cmp_total))

pub skipped_ties : (a b : SkippedLineModel) → skipped_cmp a b ≡ Equal → a ≡ b
unfolding skipped_cmp
skipped_ties a b e =
    let after_path = then_ties (bytes_cmp a.path b.path) _ e in
    same_skipped a b (bytes_same a.path b.path (first_ties _ _ e))
    (same_kind a.kind b.kind (nat_cmp-IsAntisymmetric _ _ (then_ties (reason_cmp a.reason b.reason) _ after_path)))
    (reason_ties a.reason b.reason (first_ties _ _ after_path))
