-- A walk of included files has the errors and the skipped entries of the walk of all files, but for files that are not included.
use Rattle.std.proofs.Common.{arith, rules, ◌≡◌, ◌⊎◌, ℕ, Bool, true, false, List, [], ◌∷◌, refl, sym, ◌∙◌, ap, subst, inl, inr}
use Rattle.std.proofs.{Common.{Option, None}, lemmas.Grind.common_steps}
use Rattle.std.specs.{Option.{option_map_or}, List.Contains}
use Rattle.lc_level.specs.{Answers.{Item, file_item, directory_item, other_item, name_of, Answers, Tree}, Filters.{FiltersModel, including}}
use Rattle.lc_level.specs.{Job.JobModel, Level.{Fate, Reason, SkippedLineModel, child_job, failed, fate_of, faulted_level}}
use Rattle.lc_level.specs.{Level.{level, not_included, reason_of, skipped, walked}, declared.fault_word.FaultWord.FaultWord}
use Rattle.lc_level.specs.declared.fault_word.FaultWord.TheVariants.{Absent}
use Rattle.lc_glob.specs.Path.{path_in}
use Rattle.lc_tree.specs.{declared.entry.Kind.{Kind, TheVariants.{File, Dir}}}
use Rattle.lc_walk.specs.{Found.{Found, found_fault, found_skipped}, RecursiveWalk.walk_of, FoundAt.{FoundLaw, Gives, HasAbsent, HasEntry}}
use Rattle.lc_walk.specs.FoundAt.{IsFoundIn, LeadsTo}
use Rattle.lc_laws.specs.IncludedEntries.{IncludedEntriesLaw, IsDirectoryFault, IsEntered, IsIncludedFault, IsRead, IsUnincluded}
use Rattle.lc_laws.specs.IncludedEntries.{includes}

module _ (s : FiltersModel) (text : Option (List ℕ)) where
  abbrev whole : FiltersModel
  whole = including s None

  abbrev part : FiltersModel
  part = including s text

  abbrev is_in : List ℕ → List ℕ → Bool
  is_in directory name = includes text directory name

  -- ---- the fate of an entry

  -- the fate is that in the walk of all files, and the entry is included if it is read
  abbrev IsAlike : Fate → Fate → Bool → Type 0
  IsAlike now all included = (now ≡ all) × (IsRead all → included ≡ true)

  -- the walk of all files reads the entry, which is not included and thus skipped
  abbrev IsOut : Fate → Fate → Bool → Type 0
  IsOut now all included = IsRead all × (included ≡ false) × (now ≡ skipped File not_included)

  abbrev IsEither : JobModel → Item → Type 0
  IsEither k item =
      IsAlike (fate_of part k item) (fate_of whole k item) (is_in k.path (name_of item))
      ⊎ IsOut (fate_of part k item) (fate_of whole k item) (is_in k.path (name_of item))

  unread : (kind : Kind) (o : Option Reason) (fate : Fate) → (IsRead fate → ⊥) → IsRead (option_map_or (skipped kind) o fate) → ⊥
  unread kind o fate never is = grind (arith, common_steps)

  fates : (k : JobModel) (item : Item) → IsEither k item
  fates k (file_item n c rules) = grind (arith, common_steps, unread)
  fates k (directory_item n) = inl (refl, λ read. absurd (unread Dir (reason_of whole k n true) (walked (child_job k n)) (λ is. is) read))
  fates k (other_item n what) = grind (arith, common_steps, unread)

  -- ---- an entry of a directory

  module _ (j : JobModel) (a : Answers) (name : List ℕ) where
    -- an entry of one walk is one of the other, with its fate there
    also : (from to : Option (List ℕ)) (fate other : Fate) (h : HasEntry (including s from) j a name fate)
        → fate_of (including s to) h.inside h.item ≡ other → HasEntry (including s to) j a name other
    also from to fate other h is = grind (arith, common_steps)

    -- whether it is included, by the directory of the job
    in_job : (from : Option (List ℕ)) (fate : Fate) (h : HasEntry (including s from) j a name fate)
        → is_in h.inside.path (name_of h.item) ≡ is_in j.path name
    in_job from fate h = ap (λ (i : JobModel). is_in i.path (name_of h.item)) h.listed.is ∙ ap (is_in j.path) h.named

    abbrev OfPart : Fate → Type 0
    OfPart fate =
        (HasEntry whole j a name fate × (IsRead fate → is_in j.path name ≡ true))
        ⊎ ((fate ≡ skipped File not_included) × (is_in j.path name ≡ false)
        × ((seen : Fate) × IsRead seen × HasEntry whole j a name seen))

    of_part : (fate : Fate) → HasEntry part j a name fate → OfPart fate
    of_part fate h = search (rules, arith, fates, also, in_job)

    of_whole : (fate : Fate) → HasEntry whole j a name fate → (IsRead fate → is_in j.path name ≡ true) → HasEntry part j a name fate
    of_whole fate h included = grind (arith, common_steps, also, fates, in_job)

    out_of_whole : (fate : Fate) → HasEntry whole j a name fate → IsRead fate → is_in j.path name ≡ false
        → HasEntry part j a name (skipped File not_included)
    out_of_whole fate h read out = grind (arith, common_steps, also, fates, in_job)

  -- ---- directories

  -- the same names lead to the same directories
  leads_also : (from to : Option (List ℕ)) (place : List (List ℕ)) (j k : JobModel) (t : Tree)
      → LeadsTo (including s from) j t place k → LeadsTo (including s to) j t place k
  leads_also from to [] j k t leads = leads
  leads_also from to (n ∷ place) j k t (inside, w, leads) =
      grind (arith, common_steps, leads_also from to place (child_job inside n) k (λ p. t (n ∷ p)) leads)

  absent_also : (from to : Option (List ℕ)) (j : JobModel) (a : Answers) (rest : List ℕ) → HasAbsent (including s from) j a rest
      → HasAbsent (including s to) j a rest
  absent_also from to j a rest h = record { items = h.items; inside = h.inside; listed = h.listed; absent = h.absent }

  -- a directory is at fault whatever files are included
  fault_of_both : (f g : FiltersModel) (j : JobModel) (a : Answers) (p : List ℕ) (w : FaultWord)
      → level f j a ≡ faulted_level p w → level g j a ≡ faulted_level p w
  fault_of_both f g j a p w is = grind (arith, common_steps)

  -- ---- walks

  module _ (law : FoundLaw) (depth : ℕ) (top : JobModel) (t : Tree) where
    abbrev InPart : Found → Type 0
    InPart x = Contains (walk_of part depth top t) x

    abbrev IsFault : List ℕ → FaultWord → Type 0
    IsFault path word = IsDirectoryFault s text depth top t path word ⊎ IsIncludedFault s text depth top t path word

    abbrev IsSkippedAll : List ℕ → SkippedLineModel → Type 0
    IsSkippedAll directory l =
        Contains (walk_of whole depth top t) (found_skipped directory l) ⊎ IsUnincluded s text depth top t directory l

    -- a walk finds what a directory contributes that the walk of all files enters
    found : (to : Option (List ℕ)) (x : Found) (place : List (List ℕ)) (job : JobModel) → IsEntered whole depth top t job place
        → Gives (including s to) job (t place) x → Contains (walk_of (including s to) depth top t) x
    found to x place job e gives = (law (including s to) depth top t x).1 (record {
      place = place;
      shallow = e.shallow;
      job = job;
      leads = leads_also None to place top job t e.leads;
      gives = gives;
    })

    entered : (from : Option (List ℕ)) (x : Found) (f : IsFoundIn (including s from) depth top t x)
        → IsEntered whole depth top t f.job f.place
    entered from x f = record { shallow = f.shallow; leads = leads_also from None f.place top f.job t f.leads }

    faults_there : (path : List ℕ) (word : FaultWord) → InPart (found_fault path word) → IsFault path word
    faults_there path word has = at f.gives
      where
        f : IsFoundIn part depth top t (found_fault path word)
        f = (law part depth top t (found_fault path word)).0 has

        of_directory : (level whole f.job (t f.place) ≡ faulted_level path word)
            ⊎ ((rest : List ℕ) × (path ≡ path_in f.job.path rest) × (word ≡ Absent) × HasAbsent whole f.job (t f.place) rest)
            → IsFault path word
        of_directory fault =
            inl (record { place = f.place; job = f.job; entered = entered text (found_fault path word) f; fault = fault })

        of_entry : (name : List ℕ) → path ≡ path_in f.job.path name → OfPart f.job (t f.place) name (failed word) → IsFault path word
        of_entry name is (inl (there, included)) = inr (record {
          place = f.place;
          job = f.job;
          entered = entered text (found_fault path word) f;
          name = name;
          path_is = is;
          fault = there;
          included = included tt;
        })
        of_entry name is (inr (never, out, read)) = absurd (cc never)

        at : Gives part f.job (t f.place) (found_fault path word) → IsFault path word
        at (inl e) = of_directory (inl (fault_of_both part whole f.job (t f.place) path word e))
        at (inr (inl (name, is, h))) = of_entry name is (of_part f.job (t f.place) name (failed word) h)
        at (inr (inr (rest, is, absent, h))) =
            of_directory (inr (rest, is, absent, absent_also text None f.job (t f.place) rest h))

    there_faults : (path : List ℕ) (word : FaultWord) → IsFault path word → InPart (found_fault path word)
    there_faults path word (inl d) = found text (found_fault path word) d.place d.job d.entered (at d.fault)
      where
        at : (level whole d.job (t d.place) ≡ faulted_level path word)
            ⊎ ((rest : List ℕ) × (path ≡ path_in d.job.path rest) × (word ≡ Absent) × HasAbsent whole d.job (t d.place) rest)
            → Gives part d.job (t d.place) (found_fault path word)
        at (inl e) = inl (fault_of_both whole part d.job (t d.place) path word e)
        at (inr (rest, is, absent, h)) = inr (inr (rest, is, absent, absent_also None text d.job (t d.place) rest h))
    there_faults path word (inr i) =
        let there = of_whole i.job (t i.place) i.name (failed word) i.fault (λ read. i.included) in
        found text (found_fault path word) i.place i.job i.entered (inr (inl (i.name, i.path_is, there)))

    skipped_there : (directory : List ℕ) (l : SkippedLineModel) → InPart (found_skipped directory l) → IsSkippedAll directory l
    skipped_there directory l has = at (of_part f.job (t f.place) l.path (skipped l.kind l.reason) f.gives.1)
      where
        f : IsFoundIn part depth top t (found_skipped directory l)
        f = (law part depth top t (found_skipped directory l)).0 has

        here : IsEntered whole depth top t f.job f.place
        here = entered text (found_skipped directory l) f

        at : OfPart f.job (t f.place) l.path (skipped l.kind l.reason) → IsSkippedAll directory l
        at (inl (there, included)) = inl (found None (found_skipped directory l) f.place f.job here (f.gives.0, there))
        at (inr (is, out, (seen, read, there))) = inr (record {
          kind = cc is;
          reason = cc is;
          place = f.place;
          job = f.job;
          entered = here;
          directory_is = f.gives.0;
          fate = seen;
          read = read;
          entry = there;
          not_among = ap (λ d. is_in d l.path) f.gives.0 ∙ out;
        })

    there_skipped : (directory : List ℕ) (l : SkippedLineModel) → IsSkippedAll directory l → InPart (found_skipped directory l)
    there_skipped directory l (inl has) =
        let f = (law whole depth top t (found_skipped directory l)).0 has in
        let there = of_whole f.job (t f.place) l.path (skipped l.kind l.reason) f.gives.1 (λ never. absurd never) in
        found text (found_skipped directory l) f.place f.job (entered None (found_skipped directory l) f) (f.gives.0, there)
    there_skipped directory l (inr u) =
        let out : is_in u.job.path l.path ≡ false = ap (λ d. is_in d l.path) (sym u.directory_is) ∙ u.not_among in
        let is : skipped File not_included ≡ skipped l.kind l.reason = sym (λ i. skipped (u.kind i) (u.reason i)) in
        let there = out_of_whole u.job (t u.place) l.path u.fate u.entry u.read out in
        found text (found_skipped directory l) u.place u.job u.entered
        (u.directory_is, subst (HasEntry part u.job (t u.place) l.path) is there)

pub included_entries : FoundLaw → IncludedEntriesLaw
included_entries law = grind (arith, common_steps, faults_there, there_faults, skipped_there, there_skipped)
