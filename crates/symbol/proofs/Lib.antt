mod BitWidth
