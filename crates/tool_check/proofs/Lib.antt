mod PlainPrograms
