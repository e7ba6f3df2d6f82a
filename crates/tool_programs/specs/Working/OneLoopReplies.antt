-- The reply of `oneloop` satisfies the statement on the program.
use Rattle.std.proofs.Common.{◌≡◌, ◌≢◌, ◌⊎◌, ◌↔◌, ◌≤◌, ◌<◌, ◌+◌, ◌-◌, ◌*◌, ⊎_elim, ℕ, List, true, ◌&&◌, length, None, Some, Result, Ok, Err, inl, inr, refl, sym, ap, subst, ◌∙◌, arith}
use Rattle.std.proofs.lemmas.Bool.{cases_lt, and_parts, false≢true}
use Rattle.std.proofs.lemmas.Option.{same_Some, none-some}
use Rattle.kat_model.specs.declared.limits.TheConstants.{MAX_TEXT_BYTES, MAX_VARS}
use Rattle.kat_model.specs.declared.expression.Width.{Width}
use Rattle.kat_model.specs.Expressions.{CondTree, always, never, named as tested, compared, negation, both, either}
use Rattle.kat_model.specs.Problems.{counted}
use Rattle.kat_model.specs.Stores.{modulus}
use Rattle.text_parser.specs.declared.meaning.Meaning.TheVariants.{Var}
use Rattle.text_parser.specs.ScopeParts.{ScopeParts, IsDeclared, IsUnnamed, IsWellFormed, declared}
use Rattle.text_print.specs.Printing.{name_of}
use Rattle.while_lang.specs.ProgramSizes.{prog_size}
use Rattle.while_lang.specs.Programs.{ProgTree, empty, skip_then, abort_then, assert_then, act_then, assign_then, branch_then, loop_then, is_concrete_cond, is_concrete, statements}
use Rattle.one_loop.specs.declared.fault.OneLoopFault.{OneLoopFault}
use Rattle.one_loop.specs.declared.fault.OneLoopFault.TheVariants.{NoMemory, TooManyVars, TooManyStatements}
use Rattle.one_loop.specs.Variables.{CondHasVarsBelow, HasVarsBelow}
use Rattle.one_loop.specs.Statements.{HasTooManyStatements}
use Rattle.one_loop.specs.Forms.{IsOneForm}
use Rattle.one_loop.specs.Sizes.{IsSmallForm}
use Rattle.while_lang.specs.Files.{FileParts}
use Rattle.while_lang.specs.Ranges.{IsCondInRange, IsProgInRange, IsNumbered}
use Rattle.problem_file.specs.Reads.{Reads}
use Rattle.problem_file.proofs.NumberedStates.{are_in_ranges}
use Rattle.problem_file.specs.ProgramNumbers.{ProgIsNarrow}
use Rattle.problem_file.specs.ProgramTexts.{one_program_text, IsOnePrintable}
use Rattle.problem_file.specs.TextLaws.{DenotesProgram}
use Rattle.problem_file.proofs.ProgramReadings.{program_reads_back}
use Rattle.tool_inputs.specs.declared.reply.EarlyEnd.{EarlyEnd}
use Rattle.kat_report.specs.InputLines.{too_long_line, words_line}
use Rattle.tool_commands.specs.ProgramWords.{where_concrete, program_of}
use Rattle.tool_inputs.specs.Steps.{IsRefusal, HasUnfitWords}
use Rattle.tool_commands.proofs.StoreValues.{some_numbers}
use Rattle.tool_programs.specs.FormFaults.{form_fault_line}
use Rattle.tool_programs.specs.OneLoop.{IsCounterName, names_with, IsFormFault, HasNoForm, HasForm, PrintsForm, FormsProgram, FormsFile, FormsText, IsWithinText, IsSmallProgram, ShowsForm, OneLoopHeadline, LacksProgram, OneLoopReply}
use Rattle.tool_inputs.specs.ReplySpecs.{EndsWith}
use Rattle.tool_inputs.proofs.ReplySpecs.{EndsWith-weaker}
use Rattle.tool_inputs.proofs.Steps.{OneStatus, reads_denoted, reads_faulty, reads_once, small_status, text_long}
use Rattle.tool_inputs.proofs.FileReplies.{RefusesLong, HasOneReply}
use Rattle.tool_programs.specs.Working.FileVariables.{next_unnamed}
use Rattle.tool_programs.specs.Working.FormNames.{names_are, name_identifier, name_no_var, counter_or_declared, name_declared}
use Rattle.tool_programs.specs.Working.FormBytes.{text_bytes, counter_short}

-- ---- programs without a form

module _ (f : FileParts) (p : ProgTree) where
  form_or_fault : (fault : OneLoopFault) → HasForm f p → IsFormFault f p fault → ⊥
  form_or_fault NoMemory has is = is
  form_or_fault TooManyVars has is = has.place is
  form_or_fault (TooManyStatements n) has is = let few = has.few in let more = is.1.more in omega (arith, few, more)

  one_fault : (a b : OneLoopFault) → IsFormFault f p a → IsFormFault f p b → a ≡ b
  one_fault NoMemory b x y = absurd x
  one_fault TooManyVars NoMemory x y = absurd y
  one_fault TooManyVars TooManyVars x y = refl
  one_fault TooManyVars (TooManyStatements n) x y = absurd (omega (arith, x, y.0))
  one_fault (TooManyStatements m) NoMemory x y = absurd y
  one_fault (TooManyStatements m) TooManyVars x y = absurd (omega (arith, y, x.0))
  one_fault (TooManyStatements m) (TooManyStatements n) x y = ap TooManyStatements (x.1.given ∙ sym y.1.given)

  one_line : (line other : List ℕ) → HasNoForm f p line → HasNoForm f p other → line ≡ other
  one_line line other x y = x.printed ∙ ap form_fault_line (one_fault x.fault y.fault x.is_fault y.is_fault) ∙ sym y.printed

  -- what the contract of `one_loop` says about its answer
  module _ {T : Type 0} (r : Result T OneLoopFault) (full : (r ≡ Err TooManyVars) ↔ (f.vars ≡ MAX_VARS)) (many : (n : ℕ) → (r ≡ Err (TooManyStatements n)) ↔ ((f.vars < MAX_VARS) × HasTooManyStatements f.width p n)) where
    pub has_form : (form : T) → r ≡ Ok form → f.vars ≤ MAX_VARS → HasForm f p
    has_form form is within =
        let place : f.vars ≢ MAX_VARS = λ e. let refused : r ≡ Err TooManyVars = full.1 e in absurd cc in
        record {
          place = place;
          few = elim (cases_lt (statements p) (modulus f.width)) [
            | inl lt ↦ lt
            | inr le ↦
                let refused : r ≡ Err (TooManyStatements (counted (statements p))) = (many (counted (statements p))).1 (free place, record { more = past le; given = refl }) in
                absurd cc
          ];
        }
      where
        free : f.vars ≢ MAX_VARS → f.vars < MAX_VARS
        free other = elim (cases_lt f.vars MAX_VARS) [ inl lt ↦ lt | inr le ↦ absurd (other (omega (arith, le, within))) ]

        past : modulus f.width ≤ statements p → modulus f.width - 1 < statements p
        past le = let some = some_numbers f.width in omega (arith, le, some)

    fault_is : (fault : OneLoopFault) → r ≡ Err fault → fault ≢ NoMemory → IsFormFault f p fault
    fault_is NoMemory is other = other refl
    fault_is TooManyVars is other = full.0 is
    fault_is (TooManyStatements n) is other = (many n).0 is

    pub fault_refused : (fault : OneLoopFault) (stop : EarlyEnd) → r ≡ Err fault → EndsWith (λ status output. (status ≡ 2) × ((fault ≢ NoMemory) × (output ≡ form_fault_line fault))) stop → EndsWith (IsRefusal (HasNoForm f p)) stop
    fault_refused fault stop is h =
        EndsWith-weaker (λ status output. (status ≡ 2) × ((fault ≢ NoMemory) × (output ≡ form_fault_line fault))) (IsRefusal (HasNoForm f p))
        (λ status output x. (x.0, record { fault = fault; is_fault = fault_is fault is x.1.0; printed = x.1.1 }))
        stop
        h

pub place_free : (f : FileParts) (p : ProgTree) → HasForm f p → f.vars ≤ MAX_VARS → f.vars < MAX_VARS
place_free f p has within = elim (cases_lt f.vars MAX_VARS) [ inl lt ↦ lt | inr le ↦ absurd (has.place (omega (arith, le, within))) ]

-- ---- what is printed

-- a form that is printed with the parts of the file
pub form_printed : (f : FileParts) (w : ScopeParts) (v : ℕ) (u : Width) (name : List ℕ) (p form : ProgTree) (output : List ℕ) → w ≡ f.scope → v ≡ f.vars → u ≡ f.width → IsOneForm f.width p form f.vars → IsSmallForm p form →
    ((counter : List ℕ) × IsCounterName w counter × IsWellFormed w × (output ≡ one_program_text (name_of (declared w counter (Var v))) u (v + 1) name form)) → PrintsForm f name p output
form_printed f w v u name p form output scope vars width is small h = record {
  form = form;
  is_form = is;
  small = small;
  counter = h.0;
  is_counter = subst (λ (x : ScopeParts). IsCounterName x h.0) scope h.1;
  well_formed = subst IsWellFormed scope h.2;
  printed = h.3
      ∙ ap (λ (x : ScopeParts). one_program_text (name_of (declared x h.0 (Var v))) u (v + 1) name form) scope
      ∙ ap (λ (n : ℕ). one_program_text (name_of (declared f.scope h.0 (Var n))) u (n + 1) name form) vars
      ∙ ap (λ (x : Width). one_program_text (names_with f h.0) x (f.vars + 1) name form) width;
}

-- ---- the output reads back

module _ (v : ℕ) where
  cond_in_range : (b : CondTree) → is_concrete_cond b ≡ true → CondHasVarsBelow v b → IsCondInRange 0 v b
  cond_in_range always is h = tt
  cond_in_range never is h = tt
  cond_in_range (tested k) is h = absurd (false≢true is)
  cond_in_range (compared r e f) is h = h
  cond_in_range (negation b) is h = cond_in_range b is h
  cond_in_range (both b c) is h = let parts = and_parts (is_concrete_cond b) (is_concrete_cond c) is in (cond_in_range b parts.0 h.0, cond_in_range c parts.1 h.1)
  cond_in_range (either b c) is h = let parts = and_parts (is_concrete_cond b) (is_concrete_cond c) is in (cond_in_range b parts.0 h.0, cond_in_range c parts.1 h.1)

  -- a concrete program has no tests and no actions
  concrete_in_range : (p : ProgTree) → is_concrete p ≡ true → HasVarsBelow v p → IsProgInRange 0 0 v p
  concrete_in_range empty is h = tt
  concrete_in_range (skip_then rest) is h = concrete_in_range rest is h
  concrete_in_range (abort_then rest) is h = concrete_in_range rest is h
  concrete_in_range (assert_then b rest) is h =
      let parts = and_parts (is_concrete_cond b) (is_concrete rest) is in
      (cond_in_range b parts.0 h.0, concrete_in_range rest parts.1 h.1)
  concrete_in_range (act_then a rest) is h = absurd (false≢true is)
  concrete_in_range (assign_then x e rest) is h = (h.0, h.1, concrete_in_range rest is h.2)
  concrete_in_range (branch_then b p q rest) is h =
      let parts = and_parts (is_concrete_cond b && (is_concrete p && is_concrete q)) (is_concrete rest) is in
      let front = and_parts (is_concrete_cond b) (is_concrete p && is_concrete q) parts.0 in
      let blocks = and_parts (is_concrete p) (is_concrete q) front.1 in
      (cond_in_range b front.0 h.0, concrete_in_range p blocks.0 h.1, concrete_in_range q blocks.1 h.2, concrete_in_range rest parts.1 h.3)
  concrete_in_range (loop_then b p rest) is h =
      let parts = and_parts (is_concrete_cond b && is_concrete p) (is_concrete rest) is in
      let front = and_parts (is_concrete_cond b) (is_concrete p) parts.0 in
      (cond_in_range b front.0 h.0, concrete_in_range p front.1 h.1, concrete_in_range rest parts.1 h.2)

concrete_kept : (p : ProgTree) → is_concrete p ≡ true → where_concrete (Some p) ≡ Some p
concrete_kept p is = rw is refl

module _ (text : List ℕ) (f : FileParts) (reads : Reads text f) (name : List ℕ) (p : ProgTree) (named : program_of f name ≡ Some p) (has : HasForm f p) (output : List ℕ) (h : PrintsForm f name p output) where
  numbered : IsNumbered f
  numbered = are_in_ranges text f reads

  room : (v : ℕ) → v ≤ MAX_VARS → v ≢ MAX_VARS → v + 1 ≤ MAX_VARS
  room v within other = elim (cases_lt v MAX_VARS) [ inl lt ↦ omega (arith, lt) | inr le ↦ absurd (other (omega (arith, le, within))) ]

  -- the names of the variables in the form
  module _ (longest : ℕ) (short : (word : List ℕ) → IsDeclared f.scope word → length word ≤ longest) where
    vars_short : (k : ℕ) → k < f.vars + 1 → length (names_with f h.counter (Var k)) ≤ longest + 2
    vars_short k below =
        let word = names_with f h.counter (Var k) in
        ⊎_elim
        (λ (e : word ≡ h.counter). subst (λ (l : List ℕ). length l ≤ longest + 2) (sym e) (counter_short f.scope h.counter h.is_counter longest short))
        (λ (there : IsDeclared f.scope word). omega (arith, short word there))
        (counter_or_declared f numbered (next_unnamed text f reads) h.well_formed h.counter h.is_counter k below)

    name_short : length name ≤ longest + 2
    name_short = omega (arith, short name (name_declared f numbered (next_unnamed text f reads) h.well_formed h.counter h.is_counter name p named))

  form_range : IsProgInRange 0 0 (f.vars + 1) h.form
  form_range = concrete_in_range (f.vars + 1) h.form h.is_form.concrete h.is_form.variables

  small_within : IsSmallProgram f p → IsWithinText f.width h.form output
  small_within s =
      let narrow : ProgIsNarrow f.width h.form = h.small.numbers (modulus f.width) has.few s.narrow in
      let size = prog_size p + 8 * statements p + 6 in
      let bytes = text_bytes (names_with f h.counter) f.width (s.longest + 2) (f.vars + 1) size name h.form (room f.vars numbered.vars has.place) (name_short s.longest s.names) (vars_short s.longest s.names) form_range narrow h.small.nodes (omega (arith, s.short)) in
      record {
        narrow = narrow;
        small_exprs = omega (arith, h.small.exprs, s.small_exprs);
        small = omega (arith, h.small.nodes, s.small);
        shallow = omega (arith, h.small.levels s.doublings s.few, s.shallow);
        short = subst (λ (t : List ℕ). length t ≤ MAX_TEXT_BYTES) (sym h.printed) bytes;
      }

  form_printable : IsWithinText f.width h.form output → IsOnePrintable (names_with f h.counter) f.width (f.vars + 1) name h.form
  form_printable limits =
      let unnamed : IsUnnamed f.scope (Var f.vars) = next_unnamed text f reads in
      record {
        vars = room f.vars numbered.vars has.place;
        var_names = names_are f numbered unnamed h.well_formed h.counter h.is_counter;
        identifier = name_identifier f numbered unnamed h.well_formed h.counter h.is_counter name p named;
        no_var = name_no_var f numbered unnamed h.well_formed h.counter h.is_counter name p named;
        program = record {
          in_range = form_range;
          narrow = limits.narrow;
          small_exprs = limits.small_exprs;
          small = limits.small;
          shallow = limits.shallow;
        };
        short = subst (λ (t : List ℕ). length t ≤ MAX_TEXT_BYTES) h.printed limits.short;
      }

  form_denoted : IsWithinText f.width h.form output → DenotesProgram output (names_with f h.counter) f.width (f.vars + 1) name h.form
  form_denoted limits =
      subst (λ (t : List ℕ). DenotesProgram t (names_with f h.counter) f.width (f.vars + 1) name h.form) (sym h.printed)
      (program_reads_back (names_with f h.counter) f.width (f.vars + 1) name h.form (form_printable limits))

  shows_form : ShowsForm f name p output
  shows_form = record {
    prints = h;
    within = small_within;
    reads_back = λ limits. let denotes = form_denoted limits in (denotes, ap where_concrete denotes.program ∙ concrete_kept h.form h.is_form.concrete);
  }

-- ---- the reply to a file

module _ (f : FileParts) (name : List ℕ) where
  same_named : (p q : ProgTree) → program_of f name ≡ Some p → program_of f name ≡ Some q → p ≡ q
  same_named p q x y = same_Some p q (sym x ∙ y)

  module _ (status : ℕ) (output : List ℕ) where
    takes_named : (p : ProgTree) → program_of f name ≡ Some p → FormsFile f name status output → FormsProgram f name p status output
    takes_named p named (inl r) = absurd (none-some p (sym r.unfit ∙ named))
    takes_named p named (inr (q, other, g)) = subst (λ x. FormsProgram f name x status output) (same_named q p other named) g

    takes_none : program_of f name ≡ None → FormsFile f name status output → HasUnfitWords (program_of f name ≡ None) status output
    takes_none none (inl r) = r
    takes_none none (inr (q, other, g)) = absurd (none-some q (sym none ∙ other))

    prints_form : (p : ProgTree) → HasForm f p → FormsProgram f name p status output → (status ≡ 0) × PrintsForm f name p output
    prints_form p has (inl r) = absurd (form_or_fault f p r.1.fault has r.1.is_fault)
    prints_form p has (inr g) = (g.0, g.2)

    denotes_fault : (p : ProgTree) (line : List ℕ) → HasNoForm f p line → FormsProgram f name p status output → (status ≡ 2) × (output ≡ line)
    denotes_fault p line none (inl r) = (r.0, one_line f p output line r.1 none)
    denotes_fault p line none (inr g) = absurd (form_or_fault f p none.fault g.1 none.is_fault)

-- the possible statuses, each with its cause
abbrev FileWays : FileParts → List ℕ → ℕ → List ℕ → Type 0
FileWays f name status output =
    ((status ≡ 0) × ((p : ProgTree) × (program_of f name ≡ Some p) × HasForm f p × PrintsForm f name p output))
    ⊎ (((status ≡ 2) × ((p : ProgTree) × (program_of f name ≡ Some p) × HasNoForm f p output))
    ⊎ ((status ≡ 7) × ((program_of f name ≡ None) × (output ≡ words_line))))

module _ (f : FileParts) (name : List ℕ) (status : ℕ) (output : List ℕ) where
  file_ways : FormsFile f name status output → FileWays f name status output
  file_ways (inl r) = inr (inr (r.has_status, (r.unfit, r.printed)))
  file_ways (inr (p, named, inl r)) = inr (inl (r.0, (p, named, r.1)))
  file_ways (inr (p, named, inr g)) = inl (g.0, (p, named, g.1, g.2))

  one_of : FileWays f name status output → (status ≡ 0) ⊎ ((status ≡ 2) ⊎ (status ≡ 7))
  one_of (inl h) = inl h.0
  one_of (inr (inl h)) = inr (inl h.0)
  one_of (inr (inr h)) = inr (inr h.0)

  at_formed : FileWays f name status output → status ≡ 0 → (p : ProgTree) × (program_of f name ≡ Some p) × HasForm f p × PrintsForm f name p output
  at_formed (inl h) e = h.1
  at_formed (inr (inl h)) e = absurd (omega (arith, h.0, e))
  at_formed (inr (inr h)) e = absurd (omega (arith, h.0, e))

  at_refused : FileWays f name status output → status ≡ 2 → (p : ProgTree) × (program_of f name ≡ Some p) × HasNoForm f p output
  at_refused (inl h) e = absurd (omega (arith, h.0, e))
  at_refused (inr (inl h)) e = h.1
  at_refused (inr (inr h)) e = absurd (omega (arith, h.0, e))

  at_unfit : FileWays f name status output → status ≡ 7 → (program_of f name ≡ None) × (output ≡ words_line)
  at_unfit (inl h) e = absurd (omega (arith, h.0, e))
  at_unfit (inr (inl h)) e = absurd (omega (arith, h.0, e))
  at_unfit (inr (inr h)) e = h.1

  pub one_loop_headline : (text : List ℕ) → Reads text f → FormsFile f name status output → OneLoopHeadline f name status output
  one_loop_headline text reads r =
      let ways : FileWays f name status output = file_ways r in
      record {
        answers = one_of ways;
        formed = ((λ e. let h = at_formed ways e in (h.0, h.1, h.2)), (λ h. (prints_form f name status output h.0 h.2 (takes_named f name status output h.0 h.1 r)).0));
        form = λ p named has. shows_form text f reads name p named has output (prints_form f name status output p has (takes_named f name status output p named r)).1;
        refused = ((λ e. let h = at_refused ways e in (h.0, output, h.1, h.2)), (λ h. (denotes_fault f name status output h.0 h.1 h.3 (takes_named f name status output h.0 h.2 r)).0));
        refused_line = λ p line named none. (denotes_fault f name status output p line none (takes_named f name status output p named r)).1;
        unfit = ((λ e. (at_unfit ways e).0), (λ none. (takes_none f name status output none r).has_status));
        unfit_line = λ e. (at_unfit ways e).1;
      }

pub text_headline : (text name : List ℕ) (status : ℕ) (output : List ℕ) (f : FileParts) → Reads text f → FormsText text name status output → OneLoopHeadline f name status output
text_headline text name status output f reads r = one_loop_headline f name status output text reads (reads_denoted text (λ g. FormsFile g name) status output f reads r)

-- ---- one status

file_once : (f : FileParts) (name : List ℕ) → OneStatus (FormsFile f name)
file_once f name a b o p x y = once (file_ways f name a o x)
  where
    once : FileWays f name a o → a ≡ b
    once (inl h) = h.0 ∙ sym (prints_form f name b p h.1.0 h.1.2 (takes_named f name b p h.1.0 h.1.1 y)).0
    once (inr (inl h)) = h.0 ∙ sym (denotes_fault f name b p h.1.0 o h.1.2 (takes_named f name b p h.1.0 h.1.1 y)).0
    once (inr (inr h)) = h.0 ∙ sym (takes_none f name b p h.1.0 y).has_status

forms_once : (text name : List ℕ) → OneStatus (FormsText text name)
forms_once text name = reads_once text (λ f. FormsFile f name) (λ f. file_once f name)

-- ---- what the reply says

pub one_loop_reply : (text name : List ℕ) (status : ℕ) (output : List ℕ) → FormsText text name status output → OneLoopReply text name status output
one_loop_reply text name status output r = record {
  replies = r;
  headline = λ f reads. text_headline text name status output f reads r;
  declined = λ line fault. reads_faulty text (λ f. FormsFile f name) status output line fault r;
}

pub one_loop_long : (name : List ℕ) → RefusesLong (λ text. OneLoopReply text name)
one_loop_long name text past = one_loop_reply text name 2 too_long_line (text_long text (λ f. FormsFile f name) past)

pub one_loop_one : (text name : List ℕ) → HasOneReply (OneLoopReply text name) (LacksProgram text name)
one_loop_one text name = record {
  small = λ status output r. small status output r.replies;
  once = λ a b o p x y. forms_once text name a b o p x.replies y.replies;
}
  where
    Small : ℕ → List ℕ → Type 0
    Small status output = (status < 4) ⊎ ((status ≡ 7) × (LacksProgram text name × (output ≡ words_line)))

    of_file : (status : ℕ) (output : List ℕ) (f : FileParts) → Reads text f → FileWays f name status output → Small status output
    of_file status output f reads (inl h) = inl (small_status status (inl h.0))
    of_file status output f reads (inr (inl h)) = inl (small_status status (inr (inr (inl h.0))))
    of_file status output f reads (inr (inr h)) = inr (h.0, ((f, reads, h.1.0), h.1.1))

    small : (status : ℕ) (output : List ℕ) → FormsText text name status output → Small status output
    small status output (inl r) = inl (small_status status (inr (inr (inl r.0))))
    small status output (inr (f, reads, r)) = of_file status output f reads (file_ways f name status output r)
