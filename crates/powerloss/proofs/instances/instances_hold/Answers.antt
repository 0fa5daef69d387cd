-- Each instance is computed in proofs/Computed.antt; what each says is in specs/Instances.antt.
use Rattle.powerloss.proofs.Computed.{whole_update, cut_before_the_word, cut_after_the_word, cut_in_the_word, three_bytes_written, cut_at_the_words_end, cut_in_the_erase, whole_update_loads, cut_before_the_word_loads, cut_after_the_word_loads, cut_in_the_word_loads, cut_at_the_words_end_loads, cut_in_the_erase_loads, whole_update_data, cut_at_the_words_end_data, last_committed, five_operations, erased_has_none, erased_update}
use Rattle.powerloss.proofs.instances.instances_hold.Goals as goal

pub returns : goal.returns
returns c =
    record {
      whole = whole_update;
      cut_before = cut_before_the_word;
      cut_after = cut_after_the_word;
      cut_in = cut_in_the_word;
      three_bytes = three_bytes_written;
      cut_at_end = cut_at_the_words_end;
      cut_in_erase = cut_in_the_erase;
      whole_loads = whole_update_loads;
      cut_before_loads = cut_before_the_word_loads;
      cut_after_loads = cut_after_the_word_loads;
      cut_in_loads = cut_in_the_word_loads;
      cut_at_end_loads = cut_at_the_words_end_loads;
      cut_in_erase_loads = cut_in_the_erase_loads;
      whole_data = whole_update_data;
      cut_at_end_data = cut_at_the_words_end_data;
      last_committed = last_committed;
      operations = five_operations;
      erased = erased_has_none;
      erased_update = erased_update;
    }
